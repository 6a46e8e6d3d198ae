use Rattle.std.specs.Prelude.{Ok}
use Rattle.encoding.proofs.Reading.{handed-on}
use Rattle.encoding.proofs.Types.{type-end}
use Rattle.text_measure.proofs.Steps.{came-to-end, start, was-halted, went_on}
use Rattle.text_measure.specs.Lengths.{measure_of}
use mathlib.Core.Path.{◌∙◌, ap, sym}
use native.Mathlib.Omega.{arith}
use Rattle.text_measure.proofs.measure_type.Goals as goal

pub returns-then-words-at : goal.returns-then-words-at
returns-then-words-at c =
    let a = c.args in
    ap measure_of (sym (type-end a.words.now a.pairs.now a.text.now a.at (omega (arith, c.if-words-at.true))))

pub loop-p-preserved : goal.loop-p-preserved
loop-p-preserved c =
    let w = went_on c.advance.ensures (c.in_ok-p.was ∙ ap Ok c.in-On.is) in
    (w.0, w.1 ∙ c.loop-p.invariant.1)

pub returns-in-Ended : goal.returns-in-Ended
returns-in-Ended c =
    let a = c.args in
    start a.words.now a.pairs.now a.text.now _ a.at (sym c.loop-p.invariant.1 ∙ came-to-end c.advance.ensures (c.in_ok-p.was ∙ ap Ok c.in-Ended.is))

pub returns-in_err-p : goal.returns-in_err-p
returns-in_err-p c =
    let a = c.args in
    handed-on c.from_residual.ensures.1 ∙ start a.words.now a.pairs.now a.text.now _ a.at (sym c.loop-p.invariant.1 ∙ was-halted c.advance.ensures c.in_err-p.was)
