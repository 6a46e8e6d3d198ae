use Rattle.rebuild_rules.proofs.Lists.{check-overlong, check-tables}
use mathlib.Core.Path.{◌∙◌, sym}
use Rattle.rebuild_rules.proofs.check_all.Goals as goal

pub returns-then-rules-gt-MAX_WORDS : goal.returns-then-rules-gt-MAX_WORDS
returns-then-rules-gt-MAX_WORDS c =
    let a = c.args in sym (check-overlong a.words.now a.rules.now a.pairs.now a.text.now c.if-rules-gt-MAX_WORDS.true)

pub returns : goal.returns
returns c =
    let a = c.args in c.check_tables.ensures ∙ sym (check-tables a.words.now a.rules.now a.pairs.now a.text.now c.if-rules-gt-MAX_WORDS.false)
