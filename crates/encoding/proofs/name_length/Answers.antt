use mathlib.Core.Path.{sym, ◌∙◌}
use Rattle.encoding.proofs.Tables.{length-fixed, length-pair}
use borrow.Author.Rules.{rules}
use Rattle.encoding.proofs.name_length.Goals as goal

pub returns-then-name-lt-FIRST_PAIR : goal.returns-then-name-lt-FIRST_PAIR
returns-then-name-lt-FIRST_PAIR c =
    let a = c.args in
    c.fixed_length.ensures ∙ sym (length-fixed a.pairs.now a.name (search rules))

pub returns : goal.returns
returns c = let a = c.args in c.pair_word.ensures.0 ∙ sym (length-pair a.pairs.now a.name c.if-name-lt-FIRST_PAIR.false)
