use Rattle.text_measure.specs.Levels.{ended}
use Rattle.text_measure.proofs.Steps.{step-stop, step_past, step-ended, step-deep, step-under, came-to-end}
use Rattle.accept_type.specs.Walks.{pass_of, pass_levels}
use Rattle.accept_type.proofs.Scans.{scanned-within, leaf-here, node-here, none_here}
use Rattle.std.specs.Prelude.{Ok}
use Rattle.encoding.proofs.Reading.{handed-on}
use mathlib.Core.Path.{refl, ap, ◌∙◌}
use native.Mathlib.Omega.{arith}
use Rattle.accept_type.proofs.advance.Goals as goal

pub scan_own-requires : goal.scan_own-requires
scan_own-requires c = (omega (arith, c.requires.0), c.requires.2)

pub past_leaf-requires : goal.past_leaf-requires
past_leaf-requires c = c.requires.3.some

pub settle-p-requires : goal.settle-p-requires
settle-p-requires c =
    let k = c.requires.3 in
    let e = c.past_leaf.ensures in
    (omega (arith, k.depth, ap (λ q. q.depth) e), omega (arith, k.due, ap (λ q. q.due) e))

pub returns-then-p-eq0 : goal.returns-then-p-eq0
returns-then-p-eq0 c =
    let s = c in
    let a = s.args in
    let o = leaf-here a.words.now a.pairs.now (scanned-within a.words.now a.pairs.now a.walk.place s.requires.0 c.scan_own.ensures) (c.in_ok-next.was ∙ ap Ok c.in-Leaf.is) in
    let w = c.settle-p.ensures in
    ended (came-to-end (step-ended a.words.now a.pairs.now a.text.now s.requires.1 (pass_levels a.levels.now) (pass_of a.walk) s.requires.3 o.own (rw c.past_leaf.ensures at w.0) c.if-p-eq0.true (w.1 c.if-p-eq0.true)) refl)

pub returns-then-walk-eq-DEEPEST : goal.returns-then-walk-eq-DEEPEST
returns-then-walk-eq-DEEPEST c =
    let s = c in
    let a = s.args in
    let o = node-here a.words.now a.pairs.now (scanned-within a.words.now a.pairs.now a.walk.place s.requires.0 c.scan_own.ensures) (c.in_ok-next.was ∙ ap Ok c.in-Node.is) in
    step-deep a.words.now a.pairs.now a.text.now s.requires.1 (pass_levels a.levels.now) (pass_of a.walk) s.requires.3 s.requires.2 o.own c.if-walk-eq-DEEPEST.true

pub enter-requires : goal.enter-requires
enter-requires c =
    let s = c in
    (s.requires.3.some, s.requires.3.due, s.requires.3.depth)

pub returns-else-p-eq0 : goal.returns-else-p-eq0
returns-else-p-eq0 c =
    let s = c in
    let a = s.args in
    let o = leaf-here a.words.now a.pairs.now (scanned-within a.words.now a.pairs.now a.walk.place s.requires.0 c.scan_own.ensures) (c.in_ok-next.was ∙ ap Ok c.in-Leaf.is) in
    let w = rw c.past_leaf.ensures at c.settle-p.ensures.0 in
    step_past a.words.now a.pairs.now a.text.now s.requires.1 (pass_levels a.levels.now) (pass_of a.walk) s.requires.3 o.own w (omega (arith, c.if-p-eq0.false))

pub returns-else-walk-eq-DEEPEST : goal.returns-else-walk-eq-DEEPEST
returns-else-walk-eq-DEEPEST c =
    let s = c in
    let a = s.args in
    let o = node-here a.words.now a.pairs.now (scanned-within a.words.now a.pairs.now a.walk.place s.requires.0 c.scan_own.ensures) (c.in_ok-next.was ∙ ap Ok c.in-Node.is) in
    step-under a.words.now a.pairs.now a.text.now s.requires.1 (pass_levels a.levels.now) (pass_of a.walk) s.requires.3 s.requires.2 o.own c.if-walk-eq-DEEPEST.false c.enter.ensures.1 c.enter.ensures.0

pub returns-in_err-next : goal.returns-in_err-next
returns-in_err-next c =
    let s = c in
    let a = s.args in
    rw (handed-on c.from_residual.ensures.1) (step-stop a.words.now a.pairs.now a.text.now s.requires.1 (pass_levels a.levels.now) (pass_of a.walk) s.requires.3 (none_here (scanned-within a.words.now a.pairs.now a.walk.place s.requires.0 c.scan_own.ensures) c.in_err-next.was))
