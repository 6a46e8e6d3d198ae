use mathlib.Core.Path.{sym, ◌∙◌}
use borrow.Author.Tests.{le-leb, lt-leb}
use Rattle.rast.specs.Bytes.{◌and◌}
use Rattle.rast.specs.Sound.{within, is_word_byte}
use Rattle.sound_names.proofs.is_word_byte.Goals as goal

pub returns-then-is_word_start : goal.returns-then-is_word_start
unfolding is_word_byte within ◌and◌
returns-then-is_word_start c = rw (sym c.is_word_start.ensures ∙ c.if-is_word_start.true)

pub returns-then-b-lt48 : goal.returns-then-b-lt48
unfolding is_word_byte within ◌and◌
returns-then-b-lt48 c =
    let b = c.args.b in
    rw (sym c.is_word_start.ensures ∙ c.if-is_word_start.false, lt-leb 48 b c.if-b-lt48.true)

pub returns : goal.returns
unfolding is_word_byte within ◌and◌
returns c =
    let b = c.args.b in
    rw (sym c.is_word_start.ensures ∙ c.if-is_word_start.false, le-leb 48 b c.if-b-lt48.false)
