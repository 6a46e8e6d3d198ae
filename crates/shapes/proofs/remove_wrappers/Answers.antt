use Rattle.unwrap.proofs.Going.{going-display, going-meta, going_start, meta-inside}
use Rattle.shapes.proofs.Judging.{removed-arrived, removed-display, removed-meta}
use borrow.Author.Rules.{rules}
use Rattle.shapes.proofs.remove_wrappers.Goals as goal

pub loop-place-init : goal.loop-place-init
loop-place-init c = going_start c.requires

pub loop-place-preserved-then-w-eq-T_SYNONYM : goal.loop-place-preserved-then-w-eq-T_SYNONYM
loop-place-preserved-then-w-eq-T_SYNONYM c = going-display c.loop-place.invariant c.if-w-eq-T_SYNONYM.true removed-display

pub overflow_add-place-then-w-eq-T_META_DATA : goal.overflow_add-place-then-w-eq-T_META_DATA
overflow_add-place-then-w-eq-T_META_DATA c = let h = meta-inside c.loop-place.invariant c.if-w-eq-T_META_DATA.true in search rules

pub loop-place-preserved : goal.loop-place-preserved
loop-place-preserved c = going-meta c.loop-place.invariant c.if-w-eq-T_META_DATA.true (removed-meta c.loop-place.place _ _)

pub returns-else-w-eq-T_META_DATA : goal.returns-else-w-eq-T_META_DATA
returns-else-w-eq-T_META_DATA c = removed-arrived c.loop-place.invariant c.if-w-eq-T_SYNONYM.false c.if-w-eq-T_META_DATA.false
