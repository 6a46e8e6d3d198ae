use Rattle.same_type.specs.Runs.{agrees}
use Rattle.same_type.proofs.words_agree.Goals as goal

pub returns-in-Kind : goal.returns-in-Kind
unfolding agrees
returns-in-Kind c = rw c.in-Kind.is

pub returns-in-Exact : goal.returns-in-Exact
unfolding agrees
returns-in-Exact c = rw c.in-Exact.is

pub returns-in-Sized : goal.returns-in-Sized
unfolding agrees
returns-in-Sized c = rw c.in-Sized.is c.same_size.ensures

pub returns-in-Root : goal.returns-in-Root
unfolding agrees
returns-in-Root c = rw c.in-Root.is

pub returns-in-Count : goal.returns-in-Count
unfolding agrees
returns-in-Count c = rw c.in-Count.is

pub returns-in-Names : goal.returns-in-Names
unfolding agrees
returns-in-Names c = rw c.in-Names.is c.same_name.ensures
