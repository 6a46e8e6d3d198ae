use Rattle.rebuild_declaration.proofs.Steps.{among-ahead, among-ends, among-full, among_next, going-starts}
use native.Mathlib.Omega.{arith}
use Rattle.rebuild_declaration.proofs.add_fields.Goals as goal

pub loop-next-init : goal.loop-next-init
loop-next-init c = let s = c.requires in record { going = going-starts s.0; behind = omega arith; due = s.1 }

pub add_field-requires : goal.add_field-requires
add_field-requires c = let i = c.loop-next.invariant in (i.going.ready, i.due)

pub past_field-w-requires : goal.past_field-w-requires
past_field-w-requires c = c.loop-next.invariant.due.3

pub returns-in_default : goal.returns-in_default
returns-in_default c = among-full c.loop-next.invariant c.add_field.ensures c.in_default.is

pub returns-then-w-eq0 : goal.returns-then-w-eq0
returns-then-w-eq0 c = among-ends c.loop-next.invariant c.add_field.ensures c.in-Some.is c.past_field-w.ensures c.larger-deepest.ensures

pub loop-next-smaller : goal.loop-next-smaller
loop-next-smaller c = let h = among-ahead c.loop-next.invariant c.add_field.ensures c.in-Some.is c.past_field-w.ensures c.larger-deepest.ensures in omega (arith, h.0, h.1)

pub loop-next-preserved : goal.loop-next-preserved
loop-next-preserved c = among_next c.loop-next.invariant c.add_field.ensures c.in-Some.is c.past_field-w.ensures c.larger-deepest.ensures c.if-w-eq0.false
