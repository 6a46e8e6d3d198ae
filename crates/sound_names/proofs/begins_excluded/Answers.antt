use borrow.Author.Tests.{ne_eqb}
use Rattle.sound_names.specs.Words.{begins_excluded}
use Rattle.sound_names.proofs.begins_excluded.Goals as goal

pub returns-in-83 : goal.returns-in-83
unfolding begins_excluded
returns-in-83 c = rw c.in-83.is

pub returns-in-98 : goal.returns-in-98
unfolding begins_excluded
returns-in-98 c = rw c.in-98.is

pub returns-in-99 : goal.returns-in-99
unfolding begins_excluded
returns-in-99 c = rw c.in-99.is

pub returns-in-100 : goal.returns-in-100
unfolding begins_excluded
returns-in-100 c = rw c.in-100.is

pub returns-in-105 : goal.returns-in-105
unfolding begins_excluded
returns-in-105 c = rw c.in-105.is

pub returns-in-109 : goal.returns-in-109
unfolding begins_excluded
returns-in-109 c = rw c.in-109.is

pub returns-in-117 : goal.returns-in-117
unfolding begins_excluded
returns-in-117 c = rw c.in-117.is

pub returns-in_default : goal.returns-in_default
unfolding begins_excluded
returns-in_default c =
    let r = c.in_default.in_default-own.rest in
    rw (ne_eqb _ _ r.0.0.0.0.0.0.1, ne_eqb _ _ r.0.0.0.0.0.1, ne_eqb _ _ r.0.0.0.0.1, ne_eqb _ _ r.0.0.0.1, ne_eqb _ _ r.0.0.1, ne_eqb _ _ r.0.1, ne_eqb _ _ r.1)
