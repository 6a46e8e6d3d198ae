use Rattle.encoding.specs.Scans.{ended}
use Rattle.encoding.proofs.Types.{type-end}
use Rattle.accept_type.proofs.Plain.{type-plain}
use mathlib.Core.Path.{ap, sym}
use borrow.Author.Rules.{rules}
use Rattle.accept_type.proofs.scan_type.Goals as goal

pub returns-then-words-at : goal.returns-then-words-at
returns-then-words-at c =
    let a = c.args in
    ap ended (sym (type-end a.words.now a.pairs.now a.text.now a.at c.if-words-at.true))

pub returns-then-words-at-lt-PLAIN_KINDS : goal.returns-then-words-at-lt-PLAIN_KINDS
returns-then-words-at-lt-PLAIN_KINDS c =
    let a = c.args in
    sym (type-plain a.words.now a.pairs.now a.text.now a.at (search rules) c.if-words-at-lt-PLAIN_KINDS.true)

pub returns : goal.returns
returns c = c.accept_type.ensures
