use Rattle.same_type.specs.Runs.{agrees}
use borrow.Author.Tests.{ne_eqb}
use Rattle.same_type.proofs.same_size.Goals as goal

pub returns-then-x-eq0 : goal.returns-then-x-eq0
unfolding agrees
returns-then-x-eq0 c = rw c.if-x-eq0.true

pub returns-then-y-eq0 : goal.returns-then-y-eq0
unfolding agrees
returns-then-y-eq0 c = rw (ne_eqb _ 0 c.if-x-eq0.false, c.if-y-eq0.true)

pub returns : goal.returns
unfolding agrees
returns c = rw (ne_eqb _ 0 c.if-x-eq0.false, ne_eqb _ 0 c.if-y-eq0.false) c.same_name.ensures
