use Rattle.std.proofs.Common.{refl, eq-eqb, ne_eqb}
use Rattle.rebuild_initial.specs.Initialized.{pointer_name}
use Rattle.rebuild_initial.proofs.object_name.Goals as goal

pub returns-then-place-eq0 : goal.returns-then-place-eq0
unfolding pointer_name
returns-then-place-eq0 c = rw (eq-eqb _ 0 c.if-place-eq0.true) refl

pub returns : goal.returns
unfolding pointer_name
returns c = rw (ne_eqb _ 0 c.if-place-eq0.false) refl
