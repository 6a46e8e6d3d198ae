use Prim.Native.Nat.{◌-◌}
use Rattle.unwrap.proofs.Going.{Going}
use Rattle.shapes.proofs.Judging.{can_at}
use lib.ListN.{length}
use Rattle.shapes.proofs.can_read_at.Given as goal

abbrev pub invariant-loop-at : goal.invariant-loop-at
invariant-loop-at l = Going can_at l.words l.pairs l.text l.at l.place

abbrev pub decreases-loop-at : goal.decreases-loop-at
decreases-loop-at l = length l.words - l.place
