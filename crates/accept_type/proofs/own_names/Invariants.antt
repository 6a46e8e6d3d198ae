use Rattle.text_measure.proofs.PathNames.{NamesTo}
use Rattle.accept_type.proofs.own_names.Given as goal

abbrev pub invariant-loop-i : goal.invariant-loop-i
invariant-loop-i l = NamesTo l.bound l.words l.fn.path.start l.end l.i
