use borrow.Author.Tests.{lt-ltb, le-ltb}
use Rattle.encoding.specs.Tables.{check_tables, overlong}
use Rattle.encoding.proofs.check_tables.Goals as goal

pub returns-then-words-gt-MAX_WORDS : goal.returns-then-words-gt-MAX_WORDS
unfolding check_tables overlong
returns-then-words-gt-MAX_WORDS c = rw (lt-ltb _ _ c.if-words-gt-MAX_WORDS.true)

pub returns-then-pairs-gt-MAX_PAIRS : goal.returns-then-pairs-gt-MAX_PAIRS
unfolding check_tables overlong
returns-then-pairs-gt-MAX_PAIRS c = rw (le-ltb _ _ c.if-words-gt-MAX_WORDS.false, lt-ltb _ _ c.if-pairs-gt-MAX_PAIRS.true)

pub returns-then-text-gt-MAX_TEXT : goal.returns-then-text-gt-MAX_TEXT
unfolding check_tables overlong
returns-then-text-gt-MAX_TEXT c = rw (le-ltb _ _ c.if-words-gt-MAX_WORDS.false, le-ltb _ _ c.if-pairs-gt-MAX_PAIRS.false, lt-ltb _ _ c.if-text-gt-MAX_TEXT.true)

pub returns-then-pairs_hold : goal.returns-then-pairs_hold
unfolding check_tables overlong
returns-then-pairs_hold c = rw (le-ltb _ _ c.if-words-gt-MAX_WORDS.false, le-ltb _ _ c.if-pairs-gt-MAX_PAIRS.false, le-ltb _ _ c.if-text-gt-MAX_TEXT.false, ← c.pairs_hold.ensures, c.if-pairs_hold.true)

pub returns : goal.returns
unfolding check_tables overlong
returns c = rw (le-ltb _ _ c.if-words-gt-MAX_WORDS.false, le-ltb _ _ c.if-pairs-gt-MAX_PAIRS.false, le-ltb _ _ c.if-text-gt-MAX_TEXT.false, ← c.pairs_hold.ensures, c.if-pairs_hold.false)
