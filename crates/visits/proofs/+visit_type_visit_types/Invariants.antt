use Prim.Native.Nat.{◌+◌, ◌-◌, ◌*◌}
use Rattle.visits.proofs.Passes.{Visiting}
use lib.ListN.{length}
use Rattle.visits.proofs.+visit_type_visit_types.Given as goal

-- `visit_type` may hand over where it stands; `visit_types` hands over what stands further
abbrev pub decreases-visit_type : goal.decreases-visit_type
decreases-visit_type l = 2 * (length l.words.now - l.at) + 1

abbrev pub decreases-visit_types : goal.decreases-visit_types
decreases-visit_types l = 2 * (length l.words.now - l.at)

abbrev pub invariant-visit_type-loop-left : goal.invariant-visit_type-loop-left
invariant-visit_type-loop-left l = Visiting l.words l.pairs l.text l.at 1 l.initial.out l.pos l.place l.left l.out l.p

abbrev pub decreases-visit_type-loop-left : goal.decreases-visit_type-loop-left
decreases-visit_type-loop-left l = length l.words - l.place

abbrev pub invariant-visit_types-loop-left : goal.invariant-visit_types-loop-left
invariant-visit_types-loop-left l = Visiting l.words l.pairs l.text l.at l.due l.initial.out l.pos l.place l.left l.out l.p

abbrev pub decreases-visit_types-loop-left : goal.decreases-visit_types-loop-left
decreases-visit_types-loop-left l = length l.words - l.place
