use Rattle.same_type.specs.Runs.{after_kind}
use borrow.Author.Tests.{ne_eqb}
use Rattle.same_type.proofs.after_kind.Goals as goal

pub returns-in-12 : goal.returns-in-12
unfolding after_kind
returns-in-12 c = rw c.in-12.is

pub returns-in-13 : goal.returns-in-13
unfolding after_kind
returns-in-13 c = rw c.in-13.is

pub returns-in-14 : goal.returns-in-14
unfolding after_kind
returns-in-14 c = rw c.in-14.is

pub returns-in-19 : goal.returns-in-19
unfolding after_kind
returns-in-19 c = rw c.in-19.is

pub returns-in-20 : goal.returns-in-20
unfolding after_kind
returns-in-20 c = rw c.in-20.is

pub returns-in-22 : goal.returns-in-22
unfolding after_kind
returns-in-22 c = rw c.in-22.is

pub returns-in-24 : goal.returns-in-24
unfolding after_kind
returns-in-24 c = rw c.in-24.is

pub returns-in_default : goal.returns-in_default
unfolding after_kind
returns-in_default c =
    let k = c.in_default.in_default-own.rest in
    rw (ne_eqb _ _ k.0.0.0.0.0.0.1, ne_eqb _ _ k.0.0.0.0.0.1, ne_eqb _ _ k.0.0.0.0.1, ne_eqb _ _ k.0.0.0.1, ne_eqb _ _ k.0.0.1, ne_eqb _ _ k.0.1, ne_eqb _ _ k.1)
