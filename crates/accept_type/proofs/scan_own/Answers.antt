use mathlib.Core.Path.{refl}
use Rattle.encoding.proofs.Heads.{head_at, head-end, plain-head}
use Rattle.accept_type.specs.Walks.{leaf, none}
use Rattle.accept_type.proofs.Scans.{scanned-as}
use Rattle.accept_type.proofs.scan_own.Goals as goal

pub returns-then-words-at : goal.returns-then-words-at
returns-then-words-at c =
    let a = c.args in
    none (head-end a.bound a.words.now a.at c.if-words-at.true)

pub returns-then-w-lt-PLAIN_KINDS : goal.returns-then-w-lt-PLAIN_KINDS
returns-then-w-lt-PLAIN_KINDS c =
    let a = c.args in
    leaf (plain-head a.bound a.words.now a.at c.if-words-at.false c.if-w-lt-PLAIN_KINDS.true) refl

pub own_after-requires : goal.own_after-requires
own_after-requires c = (c.if-w-lt-PLAIN_KINDS.false, c.requires.0, c.requires.1)

pub returns : goal.returns
returns c =
    let a = c.args in
    scanned-as (head_at a.bound a.words.now a.at c.if-words-at.false) c.own_after.ensures
