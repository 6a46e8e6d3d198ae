use Rattle.std.specs.Prelude.{Ok}
use mathlib.Core.Path.{ap, ◌∙◌}
use native.Mathlib.Omega.{arith}
use Rattle.encoding.proofs.Reading.{handed-on}
use Rattle.sound_type.proofs.Scans.{own-leaf, own-node, own-unsound, own-stop}
use Rattle.sound_type.proofs.Steps.{step-deep, step-ended, step_past, step-under, step-unsound, step-stop}
use Rattle.sound_type.proofs.advance.Goals as goal

pub returns-then-pass-eq-MAX_DEPTH : goal.returns-then-pass-eq-MAX_DEPTH
returns-then-pass-eq-MAX_DEPTH c =
    let s = c in
    let a = s.args in
    let k = s.requires.4 in
    (step-deep a.words.now a.pairs.now a.text.now s.requires.1.0 a.levels.now a.pass k c.if-pass-eq-MAX_DEPTH.true, s.requires.3)

pub scan_own-requires : goal.scan_own-requires
scan_own-requires c = (c.requires.0, c.requires.2, c.requires.1, c.requires.3)

pub settle-p-requires : goal.settle-p-requires
settle-p-requires c = (c.requires.4.depth, c.requires.4.rest)

pub returns-then-p-lt4 : goal.returns-then-p-lt4
returns-then-p-lt4 c =
    let s = c in
    let a = s.args in
    let k = s.requires.4 in
    let o = own-leaf c.scan_own.ensures.0 (c.in_ok-next.was ∙ ap Ok c.in-Leaf.is) in
    let w = c.settle-p.ensures in
    (step-ended a.words.now a.pairs.now a.text.now s.requires.1.0 a.levels.now a.pass k (omega (arith, k.depth, c.if-pass-eq-MAX_DEPTH.false)) (rw s.requires.0 at o) w.0 c.if-p-lt4.true (w.1 c.if-p-lt4.true), c.scan_own.ensures.1)

pub step_to-requires : goal.step_to-requires
step_to-requires c = c.if-p-lt4.false

pub enter-requires : goal.enter-requires
enter-requires c = (c.requires.4.rest, omega (arith, c.requires.4.depth, c.if-pass-eq-MAX_DEPTH.false))

pub returns-else-p-lt4 : goal.returns-else-p-lt4
returns-else-p-lt4 c =
    let s = c in
    let a = s.args in
    let k = s.requires.4 in
    let o = own-leaf c.scan_own.ensures.0 (c.in_ok-next.was ∙ ap Ok c.in-Leaf.is) in
    let w = c.settle-p.ensures in
    (step_past a.words.now a.pairs.now a.text.now s.requires.1.0 a.levels.now a.pass k (omega (arith, k.depth, c.if-pass-eq-MAX_DEPTH.false)) (rw s.requires.0 at o) w.0 c.if-p-lt4.false c.step_to.ensures, c.scan_own.ensures.1)

pub returns-in-Node : goal.returns-in-Node
returns-in-Node c =
    let s = c in
    let a = s.args in
    let k = s.requires.4 in
    let o = own-node c.scan_own.ensures.0 (c.in_ok-next.was ∙ ap Ok c.in-Node.is) in
    (step-under a.words.now a.pairs.now a.text.now s.requires.1.0 a.levels.now a.pass k (omega (arith, k.depth, c.if-pass-eq-MAX_DEPTH.false)) s.requires.2 (rw s.requires.0 at o) c.enter.ensures.1 c.enter.ensures.0, c.scan_own.ensures.1)

pub returns-in-NotSound : goal.returns-in-NotSound
returns-in-NotSound c =
    let s = c in
    let a = s.args in
    let k = s.requires.4 in
    let u = own-unsound c.scan_own.ensures.0 (c.in_ok-next.was ∙ ap Ok c.in-NotSound.is) in
    (step-unsound a.words.now a.pairs.now a.text.now s.requires.1.0 a.levels.now a.pass k (omega (arith, k.depth, c.if-pass-eq-MAX_DEPTH.false)) (rw s.requires.0 at u), c.scan_own.ensures.1)

pub returns-in_err-next : goal.returns-in_err-next
returns-in_err-next c =
    let s = c in
    let a = s.args in
    let k = s.requires.4 in
    let o = own-stop c.scan_own.ensures.0 c.in_err-next.was in
    (rw (handed-on c.from_residual.ensures.1) (step-stop a.words.now a.pairs.now a.text.now s.requires.1.0 a.levels.now a.pass k (omega (arith, k.depth, c.if-pass-eq-MAX_DEPTH.false)) (rw s.requires.0 at o)), c.scan_own.ensures.1)
