use Rattle.encoding.proofs.Heads.{head_at, head-end, plain-head}
use Rattle.encoding.proofs.scan_head.Goals as goal

pub returns-then-words-at : goal.returns-then-words-at
returns-then-words-at c = rw (head-end _ _ _ c.if-words-at.true)

pub returns-then-w-lt-PLAIN_KINDS : goal.returns-then-w-lt-PLAIN_KINDS
returns-then-w-lt-PLAIN_KINDS c =
    let a = c.args in
    rw (plain-head a.bound a.words.now a.at c.if-words-at.false c.if-w-lt-PLAIN_KINDS.true)

pub returns : goal.returns
returns c =
    let a = c.args in
    rw (head_at a.bound a.words.now a.at c.if-words-at.false) c.scan_after.ensures
