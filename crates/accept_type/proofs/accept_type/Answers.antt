use Rattle.std.specs.Prelude.{Ok}
use mathlib.Core.Path.{◌∙◌, ap, refl, sym}
use Rattle.encoding.specs.Scans.{ended}
use Rattle.text_measure.proofs.Steps.{came-to-end, was-halted, went_on}
use Rattle.accept_type.specs.Walks.{pass_step}
use Rattle.accept_type.proofs.Walks.{start, zero-levels, end-early}
use native.Mathlib.Omega.{arith}
use Rattle.accept_type.proofs.accept_type.Goals as goal

pub returns-then-words-at : goal.returns-then-words-at
returns-then-words-at c =
    let s = c in
    let a = s.args in
    ap ended (sym (end-early a.words.now a.pairs.now a.text.now a.inside a.at s.requires.2 (omega (arith, c.if-words-at.true))))

pub loop-p-init : goal.loop-p-init
loop-p-init c = (record { room = refl; place = omega (arith, c.if-words-at.false); bytes = omega arith; depth = c.requires.2; some = omega arith; due = omega arith }, refl)

pub advance-requires : goal.advance-requires
advance-requires c = (c.name_count-bound.ensures, c.requires.0, c.requires.1, c.loop-p.invariant.0)

pub loop-p-smaller : goal.loop-p-smaller
loop-p-smaller c =
    let w = went_on c.advance.ensures (ap pass_step (c.in-Ok-On.is ∙ ap Ok c.in-Ok-On.field-0-is)) in
    omega (arith, w.0.place, w.2)

pub loop-p-preserved : goal.loop-p-preserved
loop-p-preserved c =
    let w = went_on c.advance.ensures (ap pass_step (c.in-Ok-On.is ∙ ap Ok c.in-Ok-On.field-0-is)) in
    (w.0, w.1 ∙ c.loop-p.invariant.1)

pub returns-in-Ok-Ended : goal.returns-in-Ok-Ended
returns-in-Ok-Ended c =
    let a = c.args in
    start a.words.now a.pairs.now a.text.now _ a.at a.inside zero-levels (sym c.loop-p.invariant.1 ∙ came-to-end c.advance.ensures (ap pass_step (c.in-Ok-Ended.is ∙ ap Ok c.in-Ok-Ended.field-0-is)))

pub returns-in-Err : goal.returns-in-Err
returns-in-Err c =
    let a = c.args in
    start a.words.now a.pairs.now a.text.now _ a.at a.inside zero-levels (sym c.loop-p.invariant.1 ∙ was-halted c.advance.ensures (ap pass_step c.in-Err.is))
