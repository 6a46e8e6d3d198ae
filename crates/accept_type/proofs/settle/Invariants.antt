use Rattle.text_measure.specs.Levels.{Outward}
use Rattle.accept_type.specs.Walks.{pass_of, pass_levels}
use Rattle.accept_type.proofs.settle.Given as goal

abbrev pub invariant-loop-p : goal.invariant-loop-p
invariant-loop-p l = Outward (pass_levels l.levels) (pass_of l.initial.p) (pass_of l.p)

abbrev pub decreases-loop-p : goal.decreases-loop-p
decreases-loop-p l = l.p.depth
