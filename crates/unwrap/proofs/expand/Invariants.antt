use Prim.Native.Nat.{◌-◌}
use lib.ListN.{length}
use Rattle.unwrap.proofs.Expanding.{expand_to}
use Rattle.unwrap.proofs.Going.{Going}
use Rattle.unwrap.proofs.expand.Given as goal

abbrev pub invariant-loop-place : goal.invariant-loop-place
invariant-loop-place l = Going expand_to l.words l.pairs l.text l.at l.place

abbrev pub decreases-loop-place : goal.decreases-loop-place
decreases-loop-place l = length l.words - l.place
