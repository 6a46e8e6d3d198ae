use native.Mathlib.Omega.{arith}
use Rattle.rebuild_declaration.proofs.Steps.{field-advanced, field-over, field-own, field-readable, field-ready}
use Rattle.rebuild_declaration.proofs.add_field.Goals as goal

pub overflow_sub-at : goal.overflow_sub-at
overflow_sub-at c = let k = field-own c.requires.0 c.requires.1 c.field_type-at.ensures in omega (arith, k.further)

pub add_words-requires : goal.add_words-requires
add_words-requires c =
    let s = c.requires.0 in
    let k = field-own c.requires.0 c.requires.1 c.field_type-at.ensures in
    (omega (arith, k.further, k.inside), s.within, s.room)

pub returns-in_err-p : goal.returns-in_err-p
returns-in_err-p c = rw c.from_residual.ensures (field-over c.requires.0 c.requires.1 c.field_type-at.ensures c.add_words.ensures c.in_err-p.was)

pub rebuild_type-requires : goal.rebuild_type-requires
rebuild_type-requires c =
    let s = field-ready c.requires.0 c.requires.1 c.field_type-at.ensures c.add_words.ensures c.in_ok-p.was in
    (s.good, s.ruled, field-readable c.requires.0 c.requires.1 c.field_type-at.ensures c.add_words.ensures c.in_ok-p.was, s.within, s.room)

pub returns : goal.returns
returns c = field-advanced c.requires.0 c.requires.1 c.field_type-at.ensures c.add_words.ensures c.in_ok-p.was c.rebuild_type.ensures
