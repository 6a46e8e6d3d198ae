use Rattle.text_doc.specs.Steps.{Nearest}
use Rattle.text_doc.proofs.near_length.Given as goal

abbrev pub invariant-loop-i : goal.invariant-loop-i
invariant-loop-i l = Nearest l.doc l.at l.i l.found
