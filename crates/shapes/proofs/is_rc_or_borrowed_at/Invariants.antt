use Prim.Native.Nat.{◌-◌}
use Rattle.unwrap.proofs.Going.{Going}
use Rattle.shapes.proofs.Judging.{rc_at}
use lib.ListN.{length}
use Rattle.shapes.proofs.is_rc_or_borrowed_at.Given as goal

abbrev pub invariant-loop-place : goal.invariant-loop-place
invariant-loop-place l = Going rc_at l.words l.pairs l.text l.at l.place

abbrev pub decreases-loop-place : goal.decreases-loop-place
decreases-loop-place l = length l.words - l.place
