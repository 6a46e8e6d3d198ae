use Prim.Native.Nat.{◌-◌}
use Rattle.visits.specs.Passes.{Going}
use lib.ListN.{length}
use Rattle.visits.proofs.visit_walk.Given as goal

abbrev pub invariant-loop-out : goal.invariant-loop-out
invariant-loop-out l = Going l.words l.pairs l.text l.initial.w l.initial.out 0 l.w l.out l.p

abbrev pub decreases-loop-out : goal.decreases-loop-out
decreases-loop-out l = length l.words - l.w.place
