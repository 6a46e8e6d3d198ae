use Prim.Native.Nat.{◌-◌}
use Rattle.rebuild_declaration.proofs.Steps.{Among}
use lib.ListN.{length}
use Rattle.rebuild_declaration.proofs.add_fields.Given as goal

abbrev pub invariant-loop-next : goal.invariant-loop-next
invariant-loop-next l = Among l.words l.pairs l.text l.rules l.table l.k l.initial.w l.limit l.initial.out l.pos l.out l.w l.p l.deepest

abbrev pub decreases-loop-next : goal.decreases-loop-next
decreases-loop-next l = length l.words - l.w.place
