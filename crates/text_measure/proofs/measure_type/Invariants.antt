use Prim.Native.Nat.{◌-◌}
use Rattle.text_measure.specs.Levels.{Kept, rest_of}
use lib.ListN.{length}
use mathlib.Core.Path.{◌≡◌}
use Rattle.text_measure.proofs.measure_type.Given as goal

abbrev pub invariant-loop-p : goal.invariant-loop-p
invariant-loop-p l = Kept l.words l.levels l.pass × (rest_of l.words l.pairs l.text l.levels l.pass ≡ rest_of l.words l.pairs l.text l.initial.levels l.initial.pass)

abbrev pub decreases-loop-p : goal.decreases-loop-p
decreases-loop-p l = length l.words - l.pass.place
