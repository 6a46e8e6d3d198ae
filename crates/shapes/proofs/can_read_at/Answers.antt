use Rattle.unwrap.proofs.Going.{first_ends, going-base, going-readable, going_start, meta-inside, synonym-readable}
use Rattle.shapes.proofs.Judging.{can-arrived, can-base, can-copy-arrived, can-going, can-number-arrived}
use native.Mathlib.Omega.{arith}
use borrow.Author.Rules.{rules}
use Rattle.shapes.proofs.can_read_at.Goals as goal

pub loop-at-init : goal.loop-at-init
loop-at-init c = going_start c.requires.1

pub returns-then-w-lt-PLAIN_KINDS : goal.returns-then-w-lt-PLAIN_KINDS
returns-then-w-lt-PLAIN_KINDS c = can-number-arrived c.loop-at.invariant c.if-w-lt-PLAIN_KINDS.true

pub skip_type-place-requires : goal.skip_type-place-requires
skip_type-place-requires c = synonym-readable c.loop-at.invariant c.if-w-eq-T_SYNONYM.true

pub loop-at-smaller-then-w-eq-T_SYNONYM : goal.loop-at-smaller-then-w-eq-T_SYNONYM
loop-at-smaller-then-w-eq-T_SYNONYM c = omega (arith, first_ends c.loop-at.invariant c.skip_type-place.ensures)

pub loop-at-preserved-then-w-eq-T_SYNONYM : goal.loop-at-preserved-then-w-eq-T_SYNONYM
loop-at-preserved-then-w-eq-T_SYNONYM c = going-base c.loop-at.invariant c.if-w-eq-T_SYNONYM.true c.skip_type-place.ensures (λ p d b. can-base d b)

pub overflow_add-place-then-w-eq-T_META_DATA : goal.overflow_add-place-then-w-eq-T_META_DATA
overflow_add-place-then-w-eq-T_META_DATA c = let h = meta-inside c.loop-at.invariant c.if-w-eq-T_META_DATA.true in search rules

pub offset_bounds-words-place-then-w-eq-T_META_DATA : goal.offset_bounds-words-place-then-w-eq-T_META_DATA
offset_bounds-words-place-then-w-eq-T_META_DATA c = let h = meta-inside c.loop-at.invariant c.if-w-eq-T_META_DATA.true in search rules

pub bounds-words-place-then-w-eq-T_META_DATA : goal.bounds-words-place-then-w-eq-T_META_DATA
bounds-words-place-then-w-eq-T_META_DATA c = meta-inside c.loop-at.invariant c.if-w-eq-T_META_DATA.true

pub returns-then-words-place-eq-COPY_SEMANTICS : goal.returns-then-words-place-eq-COPY_SEMANTICS
returns-then-words-place-eq-COPY_SEMANTICS c = can-copy-arrived c.loop-at.invariant c.if-w-eq-T_META_DATA.true c.if-words-place-eq-COPY_SEMANTICS.true

pub overflow_add-place-then-w-eq-T_META_DATA-2 : goal.overflow_add-place-then-w-eq-T_META_DATA-2
overflow_add-place-then-w-eq-T_META_DATA-2 c = let h = meta-inside c.loop-at.invariant c.if-w-eq-T_META_DATA.true in search rules

pub loop-at-preserved : goal.loop-at-preserved
loop-at-preserved c = can-going c.loop-at.invariant c.if-w-eq-T_META_DATA.true c.if-words-place-eq-COPY_SEMANTICS.false

pub is_of-requires : goal.is_of-requires
is_of-requires c = (c.requires.0, going-readable c.loop-at.invariant)

pub returns-else-w-eq-T_META_DATA : goal.returns-else-w-eq-T_META_DATA
returns-else-w-eq-T_META_DATA c = can-arrived c.loop-at.invariant c.if-w-lt-PLAIN_KINDS.false c.if-w-eq-T_SYNONYM.false c.if-w-eq-T_META_DATA.false c.is_of.ensures
