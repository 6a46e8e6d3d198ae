use borrow.Author.Tests.{lt-ltb, le-ltb}
use Rattle.encoding.specs.Tables.{check_level}
use Rattle.encoding.proofs.check_level.Goals as goal

pub returns-then-level-gt-MAX_LEVEL : goal.returns-then-level-gt-MAX_LEVEL
unfolding check_level
returns-then-level-gt-MAX_LEVEL c = rw (lt-ltb _ _ c.if-level-gt-MAX_LEVEL.true)

pub returns : goal.returns
unfolding check_level
returns c = rw (le-ltb _ _ c.if-level-gt-MAX_LEVEL.false)
