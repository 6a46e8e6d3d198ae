use Prim.Native.Nat.{◌-◌}
use mathlib.Core.Path.{◌≡◌}
use lib.ListN.{length}
use Rattle.sound_type.specs.Judging.{Known, Kept, rest_of}
use Rattle.sound_type.proofs.judge_whole.Given as goal

abbrev pub invariant-loop-p : goal.invariant-loop-p
invariant-loop-p l =
    Kept l.words l.levels l.pass × (rest_of l.words l.pairs l.text l.levels l.pass ≡ rest_of l.words l.pairs l.text l.initial.levels l.initial.pass) × Known l.pairs l.text l.known

abbrev pub decreases-loop-p : goal.decreases-loop-p
decreases-loop-p l = length l.words - l.pass.place
