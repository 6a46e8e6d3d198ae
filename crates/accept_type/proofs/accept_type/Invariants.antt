use Prim.Native.Nat.{◌-◌}
use mathlib.Core.Path.{◌≡◌}
use lib.ListN.{length}
use Rattle.text_measure.specs.Levels.{Kept, rest_of}
use Rattle.accept_type.specs.Walks.{pass_of, pass_levels}
use Rattle.accept_type.proofs.accept_type.Given as goal

abbrev pub invariant-loop-p : goal.invariant-loop-p
invariant-loop-p l = Kept l.words (pass_levels l.levels) (pass_of l.walk) × (rest_of l.words l.pairs l.text (pass_levels l.levels) (pass_of l.walk) ≡ rest_of l.words l.pairs l.text (pass_levels l.initial.levels) (pass_of l.initial.walk))

abbrev pub decreases-loop-p : goal.decreases-loop-p
decreases-loop-p l = length l.words - l.walk.place
