use Rattle.text_doc.specs.Steps.{Passed}
use Rattle.text_doc.proofs.newline_from.Given as goal

abbrev pub invariant-loop-i : goal.invariant-loop-i
invariant-loop-i l = Passed l.doc l.at l.i
