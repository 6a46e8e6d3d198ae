use Rattle.text_measure.proofs.Steps.{outward-more}
use native.Mathlib.Omega.{arith}
use Rattle.text_measure.proofs.settle.Goals as goal

pub loop-p-preserved : goal.loop-p-preserved
loop-p-preserved c =
    let s = c in
    let l = c.loop-p in
    outward-more s.args.levels.now l.p l.invariant c.loop-p-test.true (omega (arith, c.if-p-eq0.false)) (omega (arith, l.invariant.depth, s.requires.0)) c.leave-p.ensures.0 c.leave-p.ensures.1
