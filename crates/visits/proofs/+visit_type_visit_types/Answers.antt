use mathlib.Core.Path.{refl}
use Rattle.visits.proofs.Passes.{head-asked, visit-base, visit-display, visit-due, visit-end, visit-here, visit-past, visit-rest, visit-start, visit-words}
use native.Mathlib.Omega.{arith}
use Rattle.visits.proofs.+visit_type_visit_types.Goals as goal

pub visit_type-loop-left-init : goal.visit_type-loop-left-init
visit_type-loop-left-init t c = visit-start c.requires

pub visit_type-offset_bounds-words-place : goal.visit_type-offset_bounds-words-place
visit_type-offset_bounds-words-place t c = omega (arith, visit-here c.loop-left.invariant c.loop-left-test.true, c.loop-left.invariant.few)

pub visit_type-bounds-words-place : goal.visit_type-bounds-words-place
visit_type-bounds-words-place t c = visit-here c.loop-left.invariant c.loop-left-test.true

pub visit_type-visit_types-rest-requires : goal.visit_type-visit_types-rest-requires
visit_type-visit_types-rest-requires t c =
    let v = c.loop-left.invariant in
    (omega (arith, c.decreases, v.since), visit-due v)

pub visit_type-returns-then-w-eq-T_SYNONYM : goal.visit_type-returns-then-w-eq-T_SYNONYM
visit_type-returns-then-w-eq-T_SYNONYM t c = visit-rest c.loop-left.invariant c.visit_types-rest.ensures

pub visit_type-put_place-p-requires : goal.visit_type-put_place-p-requires
visit_type-put_place-p-requires t c =
    let v = c.loop-left.invariant in
    let h = visit-here v c.loop-left-test.true in
    (omega (arith, h, v.few), omega (arith, h, v.few, v.counted))

pub visit_type-pass_kind-onward-requires : goal.visit_type-pass_kind-onward-requires
visit_type-pass_kind-onward-requires t c = head-asked c.loop-left.invariant c.loop-left-test.true c.put_place-p.ensures refl c.if-w-eq-T_SYNONYM.false

pub visit_type-loop-left-smaller : goal.visit_type-loop-left-smaller
visit_type-loop-left-smaller t c =
    let s = visit-words c.loop-left.invariant c.loop-left-test.true c.put_place-p.ensures c.if-w-eq-T_SYNONYM.false in
    omega (arith, c.pass_kind-onward.ensures.0, s.ahead, s.next.inside)

pub visit_type-loop-left-preserved : goal.visit_type-loop-left-preserved
visit_type-loop-left-preserved t c = rw (c.pass_kind-onward.ensures.0, c.pass_kind-onward.ensures.1) (visit-words c.loop-left.invariant c.loop-left-test.true c.put_place-p.ensures c.if-w-eq-T_SYNONYM.false).next

pub visit_type-returns : goal.visit_type-returns
visit_type-returns t c = visit-end c.loop-left.invariant (omega (arith, c.loop-left-test.false))

pub visit_types-loop-left-init : goal.visit_types-loop-left-init
visit_types-loop-left-init t c = visit-start c.requires

pub visit_types-offset_bounds-words-place : goal.visit_types-offset_bounds-words-place
visit_types-offset_bounds-words-place t c = omega (arith, visit-here c.loop-left.invariant c.loop-left-test.true, c.loop-left.invariant.few)

pub visit_types-bounds-words-place : goal.visit_types-bounds-words-place
visit_types-bounds-words-place t c = visit-here c.loop-left.invariant c.loop-left-test.true

pub visit_types-put_place-p-requires : goal.visit_types-put_place-p-requires
visit_types-put_place-p-requires t c =
    let v = c.loop-left.invariant in
    let h = visit-here v c.loop-left-test.true in
    (omega (arith, h, v.few), omega (arith, h, v.few, v.counted))

pub visit_types-overflow_add-place : goal.visit_types-overflow_add-place
visit_types-overflow_add-place t c = omega (arith, visit-here c.loop-left.invariant c.loop-left-test.true, c.loop-left.invariant.few)

pub visit_types-visit_type-shown-requires : goal.visit_types-visit_type-shown-requires
visit_types-visit_type-shown-requires t c =
    let v = c.loop-left.invariant in
    let l = c.loop-left-test.true in
    (omega (arith, c.decreases, visit-here v l, v.since), visit-display v l c.put_place-p.ensures c.if-w-eq-T_SYNONYM.true)

pub visit_types-skip_type-place-requires : goal.visit_types-skip_type-place-requires
visit_types-skip_type-place-requires t c = visit-base c.loop-left.invariant c.loop-left-test.true c.if-w-eq-T_SYNONYM.true c.visit_type-shown.ensures

pub visit_types-loop-left-smaller-then-w-eq-T_SYNONYM : goal.visit_types-loop-left-smaller-then-w-eq-T_SYNONYM
visit_types-loop-left-smaller-then-w-eq-T_SYNONYM t c =
    let s = visit-past c.loop-left.invariant c.loop-left-test.true c.put_place-p.ensures c.if-w-eq-T_SYNONYM.true c.visit_type-shown.ensures c.skip_type-place.ensures in
    omega (arith, s.ahead, s.next.inside)

pub visit_types-loop-left-preserved-then-w-eq-T_SYNONYM : goal.visit_types-loop-left-preserved-then-w-eq-T_SYNONYM
visit_types-loop-left-preserved-then-w-eq-T_SYNONYM t c = (visit-past c.loop-left.invariant c.loop-left-test.true c.put_place-p.ensures c.if-w-eq-T_SYNONYM.true c.visit_type-shown.ensures c.skip_type-place.ensures).next

pub visit_types-pass_kind-onward-requires : goal.visit_types-pass_kind-onward-requires
visit_types-pass_kind-onward-requires t c = head-asked c.loop-left.invariant c.loop-left-test.true c.put_place-p.ensures refl c.if-w-eq-T_SYNONYM.false

pub visit_types-loop-left-smaller : goal.visit_types-loop-left-smaller
visit_types-loop-left-smaller t c =
    let s = visit-words c.loop-left.invariant c.loop-left-test.true c.put_place-p.ensures c.if-w-eq-T_SYNONYM.false in
    omega (arith, c.pass_kind-onward.ensures.0, s.ahead, s.next.inside)

pub visit_types-loop-left-preserved : goal.visit_types-loop-left-preserved
visit_types-loop-left-preserved t c = rw (c.pass_kind-onward.ensures.0, c.pass_kind-onward.ensures.1) (visit-words c.loop-left.invariant c.loop-left-test.true c.put_place-p.ensures c.if-w-eq-T_SYNONYM.false).next

pub visit_types-returns : goal.visit_types-returns
visit_types-returns t c = visit-end c.loop-left.invariant (omega (arith, c.loop-left-test.false))
