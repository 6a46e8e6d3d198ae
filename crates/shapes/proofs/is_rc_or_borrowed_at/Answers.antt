use Rattle.unwrap.proofs.Going.{first_ends, going-base, going-readable, going-ref, going_start, synonym-readable}
use Rattle.shapes.proofs.Judging.{rc-arrived, rc-base, rc-ref}
use native.Mathlib.Omega.{arith}
use Rattle.shapes.proofs.is_rc_or_borrowed_at.Goals as goal

pub loop-place-init : goal.loop-place-init
loop-place-init c = going_start c.requires.1

pub loop-place-preserved-then-w-eq-BORROWED : goal.loop-place-preserved-then-w-eq-BORROWED
loop-place-preserved-then-w-eq-BORROWED c = going-ref c.loop-place.invariant c.if-w-eq-BORROWED.true (λ p u. rc-ref u)

pub skip_type-place-requires : goal.skip_type-place-requires
skip_type-place-requires c = synonym-readable c.loop-place.invariant c.if-w-eq-T_SYNONYM.true

pub loop-place-smaller : goal.loop-place-smaller
loop-place-smaller c = omega (arith, first_ends c.loop-place.invariant c.skip_type-place.ensures)

pub loop-place-preserved : goal.loop-place-preserved
loop-place-preserved c = going-base c.loop-place.invariant c.if-w-eq-T_SYNONYM.true c.skip_type-place.ensures (λ p d b. rc-base d b)

pub is_of-requires : goal.is_of-requires
is_of-requires c = (c.requires.0, going-readable c.loop-place.invariant)

pub returns-else-w-eq-T_SYNONYM : goal.returns-else-w-eq-T_SYNONYM
returns-else-w-eq-T_SYNONYM c = rc-arrived c.loop-place.invariant c.if-w-eq-BORROWED.false c.if-w-eq-T_SYNONYM.false c.is_of.ensures
