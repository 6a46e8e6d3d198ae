use native.Mathlib.Omega.{arith}
use mathlib.Core.Path.{◌≡◌, sym, ◌∙◌}
use borrow.Author.Tests.{eqb-true}
use Rattle.encoding.specs.Tables.{name_bytes, name_count}
use Rattle.sound_type.proofs.Names.{judged-sound}
use Rattle.sound_type.proofs.Paths.{onward-here, onward-more}
use Rattle.sound_type.proofs.known_to.Goals as goal

pub loop-i-init : goal.loop-i-init
loop-i-init c =
    let a = c.args in
    λ ask. onward-here (name_count a.pairs.now) a.words.now (name_bytes a.pairs.now a.text.now) ask a.start a.end c.requires.1 c.requires.2

pub returns-then-not-is_known : goal.returns-then-not-is_known
returns-then-not-is_known c = c.loop-i.invariant

pub loop-i-preserved : goal.loop-i-preserved
loop-i-preserved c =
    let a = c.args in
    let k = c.requires.0 in
    let l = c.loop-i in
    let e = eqb-true _ _ (sym c.is_known.ensures ∙ c.if-not-is_known.false) in
    λ ask. onward-more (name_count a.pairs.now) a.words.now (name_bytes a.pairs.now a.text.now) ask a.start a.end (l.invariant ask) (omega arith) (omega arith) (k.inside _ e) (judged-sound ask (k.sound _ e))

pub returns : goal.returns
returns c =
    let e : c.loop-i.i ≡ c.min-limit.result = omega arith in
    λ ask. rw e at (c.loop-i.invariant ask)
