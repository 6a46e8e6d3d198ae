use mathlib.Core.Path.{refl}
use Rattle.encoding.specs.declared.Head.TheVariants.{Plain}
use Rattle.encoding.proofs.Heads.{head_at, head-end, plain-head}
use Rattle.sound_type.specs.Judging.{words_sound}
use Rattle.sound_type.proofs.Scans.{scanned-plain, scanned-stop, scanned-as}
use Rattle.sound_type.proofs.scan_own.Goals as goal

pub returns-then-words-at : goal.returns-then-words-at
returns-then-words-at c =
    let a = c.args in
    (scanned-stop a.words.now a.pairs.now a.text.now a.ask (head-end a.bound a.words.now a.at c.if-words-at.true) refl, c.requires.3)

pub returns-then-w-lt-PLAIN_KINDS : goal.returns-then-w-lt-PLAIN_KINDS
unfolding words_sound
returns-then-w-lt-PLAIN_KINDS c =
    let a = c.args in (
      scanned-plain a.words.now a.pairs.now a.text.now a.ask (Plain _)
          (plain-head a.bound a.words.now a.at c.if-words-at.false c.if-w-lt-PLAIN_KINDS.true)
          c.own_leaf.ensures refl refl refl,
      c.requires.3,
    )

pub own_after-requires : goal.own_after-requires
own_after-requires c = (c.if-w-lt-PLAIN_KINDS.false, c.requires.0, c.requires.1, c.requires.2, c.requires.3)

pub returns : goal.returns
returns c =
    let a = c.args in
    (scanned-as a.words.now a.pairs.now a.text.now a.ask (head_at a.bound a.words.now a.at c.if-words-at.false) c.own_after.ensures.0, c.own_after.ensures.1)
