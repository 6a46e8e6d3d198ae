use mathlib.Core.Path.{◌≡◌, refl, ◌∙◌}
use lib.ListN.{get_or}
use Rattle.encoding.specs.declared.Head.TheVariants.{Plain}
use Rattle.encoding.specs.Heads.{head_after}
use Rattle.encoding.proofs.Heads.{head_at, head-end, plain-head}
use Rattle.text_measure.specs.Lengths.{own_length}
use Rattle.text_measure.proofs.Scans.{scanned-leaf, scanned-stop, scanned-as}
use native.Mathlib.Omega.{arith}
use Rattle.text_measure.proofs.scan_own.Goals as goal

pub returns-then-words-at : goal.returns-then-words-at
returns-then-words-at c =
    let a = c.args in
    scanned-stop a.words.now a.pairs.now (head-end a.bound a.words.now a.at c.if-words-at.true) refl

pub returns-then-w-lt-PLAIN_KINDS : goal.returns-then-w-lt-PLAIN_KINDS
unfolding own_length
returns-then-w-lt-PLAIN_KINDS c =
    let a = c.args in
    scanned-leaf a.words.now a.pairs.now (Plain _)
    (plain-head a.bound a.words.now a.at c.if-words-at.false c.if-w-lt-PLAIN_KINDS.true)
    c.own_leaf.ensures refl c.primitive_length.ensures.0 (omega (arith, c.primitive_length.ensures.1))

pub returns-then-w-lt-TYPE_FROM_PATH : goal.returns-then-w-lt-TYPE_FROM_PATH
unfolding head_after
returns-then-w-lt-TYPE_FROM_PATH c =
    let a = c.args in
    let e : get_or a.words.now a.at 0 ≡ 12 = omega (arith, c.if-w-lt-PLAIN_KINDS.false, c.if-w-lt-TYPE_FROM_PATH.true) in
    scanned-as a.words.now a.pairs.now (head_at a.bound a.words.now a.at c.if-words-at.false ∙ rw e) c.own_name.ensures

pub returns : goal.returns
returns c =
    let a = c.args in
    scanned-as a.words.now a.pairs.now (head_at a.bound a.words.now a.at c.if-words-at.false) c.own_after.ensures
