use borrow.Author.Tests.{lt-ltb, le-ltb}
use Rattle.sound_type.proofs.ask_next.Goals as goal

pub returns-then-rest-lt4 : goal.returns-then-rest-lt4
returns-then-rest-lt4 c = rw (lt-ltb _ 4 c.if-rest-lt4.true)

pub returns : goal.returns
returns c = rw (le-ltb _ 4 c.if-rest-lt4.false)
