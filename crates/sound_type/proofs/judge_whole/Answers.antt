use Rattle.std.specs.Prelude.{Ok}
use native.Mathlib.Omega.{arith}
use mathlib.Core.Path.{refl, ap, sym, ◌∙◌}
use Rattle.encoding.proofs.Reading.{handed-on}
use Rattle.sound_type.proofs.Names.{known-none}
use Rattle.sound_type.proofs.Steps.{went_on, came-to-end, was-unfit, was-halted, whole-ended, whole-unfit, whole-halted}
use Rattle.sound_type.proofs.judge_whole.Goals as goal

pub keep_fixed-requires : goal.keep_fixed-requires
keep_fixed-requires c =
    let a = c.args in
    known-none a.pairs.now a.text.now

pub loop-p-init : goal.loop-p-init
loop-p-init c =
    let a = c.args in
    (record { room = refl; place = omega arith; depth = omega arith; rest = omega arith }, refl, c.keep_fixed.ensures)

pub advance-requires : goal.advance-requires
advance-requires c = (c.name_count-bound.ensures, c.requires.0, c.requires.1, c.loop-p.invariant.2, c.loop-p.invariant.0)

pub loop-p-smaller : goal.loop-p-smaller
loop-p-smaller c =
    let w = went_on c.advance.ensures.0 (c.in_ok-p.was ∙ ap Ok c.in-On.is) in
    omega (arith, w.0.place, w.2)

pub loop-p-preserved : goal.loop-p-preserved
loop-p-preserved c =
    let w = went_on c.advance.ensures.0 (c.in_ok-p.was ∙ ap Ok c.in-On.is) in
    (w.0, w.1 ∙ c.loop-p.invariant.1, c.advance.ensures.1)

pub returns-in-Ended : goal.returns-in-Ended
returns-in-Ended c =
    let a = c.args in
    c.sound_to.ensures ∙ sym (whole-ended a.words.now a.pairs.now a.text.now _ (sym c.loop-p.invariant.1 ∙ came-to-end c.advance.ensures.0 (c.in_ok-p.was ∙ ap Ok c.in-Ended.is)))

pub accept_whole-requires : goal.accept_whole-requires
accept_whole-requires c = c.requires

pub returns-in-Unfit : goal.returns-in-Unfit
returns-in-Unfit c =
    let a = c.args in
    c.accept_whole.ensures ∙ sym (whole-unfit a.words.now a.pairs.now a.text.now _ (λ n e. was-unfit c.advance.ensures.0 (c.in_ok-p.was ∙ ap Ok c.in-Unfit.is) n (c.loop-p.invariant.1 ∙ e)))

pub returns-in_err-p : goal.returns-in_err-p
returns-in_err-p c =
    let a = c.args in
    handed-on c.from_residual.ensures.1 ∙ sym (whole-halted a.words.now a.pairs.now a.text.now _ (sym c.loop-p.invariant.1 ∙ was-halted c.advance.ensures.0 c.in_err-p.was))
