use Prim.Native.Nat.{◌+◌, ◌≤◌}
use mathlib.Core.Path.{◌≡◌}
use mathlib.Core.Bool.{true}
use Rattle.declaration_walk.specs.declared.After.TheVariants.{NoMore}
use Rattle.visits.specs.Visited.{is_entered}
use Rattle.visits.specs.Passes.{Going}
use Rattle.visits.proofs.visit_fields.Given as goal

abbrev pub invariant-loop-w : goal.invariant-loop-w
invariant-loop-w l =
    Going l.words l.pairs l.text l.initial.w l.initial.out l.pos l.w l.out l.p × (l.w.types ≡ 0) × (l.w.parameters ≡ 0) × (l.w.after ≡ NoMore) × (l.initial.w.place + l.initial.w.fields ≤ l.w.place + l.w.fields) × (is_entered l.w.role ≡ true)

abbrev pub decreases-loop-w : goal.decreases-loop-w
decreases-loop-w l = l.w.fields
