use Rattle.std.specs.Prelude.{Ok}
use mathlib.Core.Path.{ap, ◌∙◌}
use Rattle.encoding.proofs.Reading.{handed-on}
use Rattle.text_measure.proofs.Steps.{own-leaf, own-node, own-stop, step-stop, step_past, step-ended, step-deep, step-under}
use native.Mathlib.Omega.{arith}
use Rattle.text_measure.proofs.advance.Goals as goal

pub returns-then-p-eq0 : goal.returns-then-p-eq0
returns-then-p-eq0 c =
    let s = c in
    let a = s.args in
    let o = own-leaf a.pass.mode c.scan_own.ensures (c.in_ok-next.was ∙ ap Ok c.in-Leaf.is) in
    let w = c.settle-p.ensures in
    step-ended a.words.now a.pairs.now a.text.now s.requires.1 a.levels.now a.pass s.requires.3 (rw s.requires.0 at o) (rw c.past_leaf.ensures at w.0) c.if-p-eq0.true (w.1 c.if-p-eq0.true)

pub returns-then-pass-eq-DEEPEST : goal.returns-then-pass-eq-DEEPEST
returns-then-pass-eq-DEEPEST c =
    let s = c in
    let a = s.args in
    let o = own-node a.pass.mode c.scan_own.ensures (c.in_ok-next.was ∙ ap Ok c.in-Node.is) in
    step-deep a.words.now a.pairs.now a.text.now s.requires.1 a.levels.now a.pass s.requires.3 s.requires.2 (rw s.requires.0 at o) c.if-pass-eq-DEEPEST.true

pub returns-else-p-eq0 : goal.returns-else-p-eq0
returns-else-p-eq0 c =
    let s = c in
    let a = s.args in
    let o = own-leaf a.pass.mode c.scan_own.ensures (c.in_ok-next.was ∙ ap Ok c.in-Leaf.is) in
    let w = c.settle-p.ensures in
    step_past a.words.now a.pairs.now a.text.now s.requires.1 a.levels.now a.pass s.requires.3 (rw s.requires.0 at o) (rw c.past_leaf.ensures at w.0) (omega (arith, c.if-p-eq0.false))

pub returns-else-pass-eq-DEEPEST : goal.returns-else-pass-eq-DEEPEST
returns-else-pass-eq-DEEPEST c =
    let s = c in
    let a = s.args in
    let o = own-node a.pass.mode c.scan_own.ensures (c.in_ok-next.was ∙ ap Ok c.in-Node.is) in
    step-under a.words.now a.pairs.now a.text.now s.requires.1 a.levels.now a.pass s.requires.3 s.requires.2 (rw s.requires.0 at o) c.if-pass-eq-DEEPEST.false c.enter.ensures.1 c.enter.ensures.0

pub returns-in_err-next : goal.returns-in_err-next
returns-in_err-next c =
    let s = c in
    let a = s.args in
    let o = own-stop c.scan_own.ensures c.in_err-next.was in
    rw (handed-on c.from_residual.ensures.1) (step-stop a.words.now a.pairs.now a.text.now s.requires.1 a.levels.now a.pass s.requires.3 (rw s.requires.0 at o))
