use Rattle.same_type.specs.Runs.{after}
use borrow.Author.Tests.{le-ltb, lt-ltb}
use Rattle.same_type.proofs.due_after.Goals as goal

pub returns-then-x-gt0 : goal.returns-then-x-gt0
unfolding after
returns-then-x-gt0 c = rw (c.in-Count.is, lt-ltb 0 _ c.if-x-gt0.true)

pub returns-then-n-gt1 : goal.returns-then-n-gt1
unfolding after
returns-then-n-gt1 c = rw (c.in-Names.is, lt-ltb 1 _ c.if-n-gt1.true)

pub returns-in-Kind : goal.returns-in-Kind
unfolding after
returns-in-Kind c = rw c.in-Kind.is c.after_kind.ensures

pub returns-in-Exact : goal.returns-in-Exact
unfolding after
returns-in-Exact c = rw c.in-Exact.is

pub returns-in-Sized : goal.returns-in-Sized
unfolding after
returns-in-Sized c = rw c.in-Sized.is

pub returns-in-Root : goal.returns-in-Root
unfolding after
returns-in-Root c = rw c.in-Root.is

pub returns-else-x-gt0 : goal.returns-else-x-gt0
unfolding after
returns-else-x-gt0 c = rw (c.in-Count.is, le-ltb 0 _ c.if-x-gt0.false)

pub returns-else-n-gt1 : goal.returns-else-n-gt1
unfolding after
returns-else-n-gt1 c = rw (c.in-Names.is, le-ltb 1 _ c.if-n-gt1.false)
