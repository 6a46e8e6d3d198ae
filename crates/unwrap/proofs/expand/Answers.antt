use Rattle.unwrap.proofs.Expanding.{expand-arrived, expand-base, expand-display}
use Rattle.unwrap.proofs.Going.{first_ends, going-base, going-meta, going_start, meta-inside, synonym-readable}
use native.Mathlib.Omega.{arith}
use borrow.Author.Rules.{rules}
use Rattle.unwrap.proofs.expand.Goals as goal

pub loop-place-init : goal.loop-place-init
loop-place-init c = going_start c.requires

pub skip_type-place-requires : goal.skip_type-place-requires
skip_type-place-requires c = synonym-readable c.loop-place.invariant (search rules)

pub loop-place-smaller-then-w-eq-T_SYNONYM : goal.loop-place-smaller-then-w-eq-T_SYNONYM
loop-place-smaller-then-w-eq-T_SYNONYM c = omega (arith, first_ends c.loop-place.invariant c.skip_type-place.ensures)

pub loop-place-preserved-then-w-eq-T_SYNONYM : goal.loop-place-preserved-then-w-eq-T_SYNONYM
loop-place-preserved-then-w-eq-T_SYNONYM c = going-base c.loop-place.invariant (search rules) c.skip_type-place.ensures expand-base

pub overflow_add-place-then-w-eq-T_META_DATA : goal.overflow_add-place-then-w-eq-T_META_DATA
overflow_add-place-then-w-eq-T_META_DATA c = let i = meta-inside c.loop-place.invariant (search rules) in search rules

pub loop-place-preserved : goal.loop-place-preserved
loop-place-preserved c = going-meta c.loop-place.invariant (search rules) (expand-display c.loop-place.place _ _)

pub returns-else-w-eq-T_META_DATA : goal.returns-else-w-eq-T_META_DATA
returns-else-w-eq-T_META_DATA c = expand-arrived c.loop-place.invariant (search rules) (search rules)
