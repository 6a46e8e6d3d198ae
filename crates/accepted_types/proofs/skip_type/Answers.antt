use Rattle.accepted_types.proofs.Skipping.{skip-start, head-due, skip-words, skip-end}
use native.Mathlib.Omega.{arith}
use Rattle.accepted_types.proofs.skip_type.Goals as goal

pub loop-due-init : goal.loop-due-init
loop-due-init c =
    let s = c in
    skip-start s.args.words.now s.args.pairs.now s.args.text.now s.args.at s.requires

pub pass_head-onward-requires : goal.pass_head-onward-requires
pass_head-onward-requires c =
    let s = skip-words c.loop-due.invariant c.loop-due-test.true in
    (head-due c.loop-due.invariant c.loop-due-test.true, c.loop-due-test.true, omega (arith, s.few))

pub loop-due-smaller : goal.loop-due-smaller
loop-due-smaller c =
    let s = skip-words c.loop-due.invariant c.loop-due-test.true in
    omega (arith, c.pass_head-onward.ensures.0, s.ahead, s.next.inside)

pub loop-due-preserved : goal.loop-due-preserved
loop-due-preserved c =
    let s = skip-words c.loop-due.invariant c.loop-due-test.true in
    rw (c.pass_head-onward.ensures.0, c.pass_head-onward.ensures.1) s.next

pub returns : goal.returns
returns c = skip-end c.loop-due.invariant (omega (arith, c.loop-due-test.false))
