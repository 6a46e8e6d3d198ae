use mathlib.Core.Path.{refl}
use native.Mathlib.Omega.{arith}
use Rattle.visits.proofs.Entering.{field-due, field_past, going_start}
use Rattle.visits.proofs.visit_fields.Goals as goal

pub loop-w-init : goal.loop-w-init
loop-w-init c =
    let s = c in
    let a = s.args in
    let f = s.requires.1.0 in
    (going_start a.words.now a.pairs.now a.text.now a.walk a.out.now a.pos s.requires.0 s.requires.2, f.0, f.1, f.2, omega arith, s.requires.1.1)

pub field_type-requires : goal.field_type-requires
field_type-requires c = omega (arith, c.loop-w.invariant.0.inside, c.loop-w.invariant.0.few)

pub visit_type-spot-requires : goal.visit_type-spot-requires
visit_type-spot-requires c =
    let a = c.args in
    let i = c.loop-w.invariant in
    rw c.field_type.ensures (field-due a.words.now a.pairs.now a.text.now a.walk a.out.now a.pos i.0 (i.1, i.2, i.3, c.loop-w-test.true))

pub past_field-w-requires : goal.past_field-w-requires
past_field-w-requires c = c.loop-w-test.true

pub loop-w-smaller : goal.loop-w-smaller
loop-w-smaller c = rw c.past_field-w.ensures (omega (arith, c.loop-w-test.true))

pub loop-w-preserved : goal.loop-w-preserved
loop-w-preserved c =
    let a = c.args in
    let i = c.loop-w.invariant in
    let l = c.loop-w-test.true in
    let g = field_past a.words.now a.pairs.now a.text.now a.walk a.out.now a.pos i.0 ((i.1, i.2, i.3, l), i.5) (rw c.field_type.ensures at c.visit_type-spot.ensures) in
    rw c.past_field-w.ensures (g.next, refl, refl, refl, omega (arith, i.4, g.further, l), i.5)

pub shape_of-out : goal.shape_of-out
shape_of-out c = c.loop-w.invariant.0.kept

pub returns : goal.returns
returns c = (c.loop-w.invariant.0, omega (arith, c.loop-w.invariant.4, c.loop-w-test.false, c.requires.1.0.3))
