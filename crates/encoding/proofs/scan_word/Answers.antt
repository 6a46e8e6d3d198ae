use Rattle.encoding.proofs.Reading.{word_in, word_end}
use Rattle.encoding.proofs.scan_word.Goals as goal

pub returns-then-words-at : goal.returns-then-words-at
returns-then-words-at c = rw (word_end _ _ c.if-words-at.true)

pub returns : goal.returns
returns c = rw (word_in _ _ c.if-words-at.false)
