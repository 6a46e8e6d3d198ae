use borrow.Author.Tests.{eq-eqb, ne_eqb}
use Rattle.encoding.specs.Reading.{whole}
use Rattle.sound_type.proofs.sound_to.Goals as goal

pub returns-then-next-words : goal.returns-then-next-words
unfolding whole
returns-then-next-words c = rw (ne_eqb _ _ c.if-next-words.true)

pub returns : goal.returns
unfolding whole
returns c = rw (eq-eqb _ _ c.if-next-words.false)
