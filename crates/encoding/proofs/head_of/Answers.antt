use borrow.Author.Tests.{ne_eqb}
use Rattle.encoding.specs.Scans.{head_of}
use Rattle.encoding.proofs.head_of.Goals as goal

pub returns-in-12 : goal.returns-in-12
unfolding head_of
returns-in-12 c = rw c.in-12.is

pub returns-in-14 : goal.returns-in-14
unfolding head_of
returns-in-14 c = rw c.in-14.is

pub returns-in-19 : goal.returns-in-19
unfolding head_of
returns-in-19 c = rw c.in-19.is

pub returns-in-20 : goal.returns-in-20
unfolding head_of
returns-in-20 c = rw c.in-20.is

pub returns-in-22 : goal.returns-in-22
unfolding head_of
returns-in-22 c = rw c.in-22.is

pub returns-in_default : goal.returns-in_default
unfolding head_of
returns-in_default c = rw (ne_eqb _ _ c.in_default.in_default-own.rest.0.0.0.0.1, ne_eqb _ _ c.in_default.in_default-own.rest.0.0.0.1, ne_eqb _ _ c.in_default.in_default-own.rest.0.0.1, ne_eqb _ _ c.in_default.in_default-own.rest.0.1, ne_eqb _ _ c.in_default.in_default-own.rest.1)
