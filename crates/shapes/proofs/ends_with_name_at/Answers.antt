use Rattle.unwrap.proofs.Going.{first_ends, going-right, going_start, left-readable}
use Rattle.shapes.proofs.Judging.{going-name, name-arrived, name-right}
use native.Mathlib.Omega.{arith}
use borrow.Author.Rules.{rules}
use Rattle.shapes.proofs.ends_with_name_at.Goals as goal

pub loop-place-init : goal.loop-place-init
loop-place-init c = going_start c.requires

pub skip_type-place-requires : goal.skip_type-place-requires
skip_type-place-requires c = left-readable c.loop-place.invariant c.if-w-eq-INTERSECTION_TYPE.true

pub loop-place-smaller-then-w-eq-INTERSECTION_TYPE : goal.loop-place-smaller-then-w-eq-INTERSECTION_TYPE
loop-place-smaller-then-w-eq-INTERSECTION_TYPE c = omega (arith, first_ends c.loop-place.invariant c.skip_type-place.ensures)

pub loop-place-preserved-then-w-eq-INTERSECTION_TYPE : goal.loop-place-preserved-then-w-eq-INTERSECTION_TYPE
loop-place-preserved-then-w-eq-INTERSECTION_TYPE c = going-right c.loop-place.invariant c.if-w-eq-INTERSECTION_TYPE.true c.skip_type-place.ensures (λ p l r. name-right l r)

pub returns-then-own-eq0 : goal.returns-then-own-eq0
returns-then-own-eq0 c = name-arrived c.loop-place.invariant c.if-w-eq-INTERSECTION_TYPE.false c.name_step-own.ensures c.if-own-eq0.true c.is_name_kind.ensures

pub overflow_add-place-else-w-eq-INTERSECTION_TYPE : goal.overflow_add-place-else-w-eq-INTERSECTION_TYPE
overflow_add-place-else-w-eq-INTERSECTION_TYPE c = let g = going-name c.loop-place.invariant c.name_step-own.ensures c.if-own-eq0.false in search rules

pub loop-place-smaller : goal.loop-place-smaller
loop-place-smaller c = omega (arith, c.if-own-eq0.false)

pub loop-place-preserved : goal.loop-place-preserved
loop-place-preserved c = going-name c.loop-place.invariant c.name_step-own.ensures c.if-own-eq0.false
