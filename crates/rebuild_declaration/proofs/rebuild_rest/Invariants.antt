use Prim.Native.Nat.{◌-◌}
use Rattle.rebuild_declaration.proofs.Steps.{Going}
use lib.ListN.{length}
use Rattle.rebuild_declaration.proofs.rebuild_rest.Given as goal

abbrev pub invariant-loop-next : goal.invariant-loop-next
invariant-loop-next l = Going l.words l.pairs l.text l.rules l.table l.k l.initial.w l.limit l.initial.out l.pos l.out l.w l.p l.deepest

abbrev pub decreases-loop-next : goal.decreases-loop-next
decreases-loop-next l = length l.words - l.w.place
