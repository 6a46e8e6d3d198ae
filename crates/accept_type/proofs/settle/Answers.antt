use mathlib.Core.Path.{ap}
use Rattle.text_measure.proofs.Steps.{outward-here, outward-more}
use Rattle.accept_type.specs.Walks.{pass_of, pass_levels}
use native.Mathlib.Omega.{arith}
use Rattle.accept_type.proofs.settle.Goals as goal

pub loop-p-init : goal.loop-p-init
loop-p-init c = outward-here (pass_levels c.args.levels.now) (pass_of c.args.walk) c.requires.1

pub returns-then-p-eq0 : goal.returns-then-p-eq0
returns-then-p-eq0 c = (c.loop-p.invariant, λ e. c.if-p-eq0.true)

pub leave-p-requires : goal.leave-p-requires
leave-p-requires c = (omega (arith, c.if-p-eq0.false), omega (arith, c.loop-p.invariant.depth, c.requires.0))

pub loop-p-smaller : goal.loop-p-smaller
loop-p-smaller c = omega (arith, ap (λ q. q.depth) c.leave-p.ensures.0, c.if-p-eq0.false)

pub loop-p-preserved : goal.loop-p-preserved
loop-p-preserved c =
    let s = c in
    let l = c.loop-p in
    outward-more (pass_levels s.args.levels.now) (pass_of l.p) l.invariant c.loop-p-test.true (omega (arith, c.if-p-eq0.false)) (omega (arith, l.invariant.depth, s.requires.0)) c.leave-p.ensures.0 c.leave-p.ensures.1

pub returns : goal.returns
returns c = (c.loop-p.invariant, λ e. absurd (c.loop-p-test.false e))
