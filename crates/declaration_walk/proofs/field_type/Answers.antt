use mathlib.Core.Path.{refl}
use borrow.Author.Tests.{eq-eqb, ne_eqb}
use Rattle.declaration_walk.proofs.field_type.Goals as goal

pub returns-then-walk-eq-NAMED : goal.returns-then-walk-eq-NAMED
returns-then-walk-eq-NAMED c = rw (eq-eqb _ 0 c.if-walk-eq-NAMED.true) refl

pub returns : goal.returns
returns c = rw (ne_eqb _ 0 c.if-walk-eq-NAMED.false) refl
