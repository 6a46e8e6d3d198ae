use Rattle.shapes.specs.Accepted.{name_kind}
use borrow.Author.Tests.{le-ltb, lt-ltb, ne_eqb}
use mathlib.Core.Path.{refl}
use Rattle.shapes.proofs.is_name_kind.Goals as goal

pub returns-then-kind-lt-USIZE : goal.returns-then-kind-lt-USIZE
unfolding name_kind
returns-then-kind-lt-USIZE c = rw (lt-ltb _ _ c.if-kind-lt-USIZE.true) refl

pub returns-then-kind-eq-T_IDENTIFIER : goal.returns-then-kind-eq-T_IDENTIFIER
unfolding name_kind
returns-then-kind-eq-T_IDENTIFIER c = rw c.if-kind-eq-T_IDENTIFIER.true refl

pub returns : goal.returns
unfolding name_kind
returns c = rw (le-ltb _ _ c.if-kind-lt-USIZE.false, ne_eqb _ _ c.if-kind-eq-T_IDENTIFIER.false) refl
