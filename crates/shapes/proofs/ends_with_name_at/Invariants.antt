use Prim.Native.Nat.{◌-◌}
use Rattle.unwrap.proofs.Going.{Going}
use Rattle.shapes.proofs.Judging.{ends_at}
use lib.ListN.{length}
use Rattle.shapes.proofs.ends_with_name_at.Given as goal

abbrev pub invariant-loop-place : goal.invariant-loop-place
invariant-loop-place l = Going ends_at l.words l.pairs l.text l.at l.place

abbrev pub decreases-loop-place : goal.decreases-loop-place
decreases-loop-place l = length l.words - l.place
