use Rattle.text_doc.proofs.Runs.{passed_none, passed_then}
use native.Mathlib.Omega.{arith}
use Rattle.text_doc.proofs.skip_blocks.Goals as goal

pub loop-i-init : goal.loop-i-init
loop-i-init c = passed_none c.args.doc.now c.args.at c.requires.0

pub overflow_sub-doc : goal.overflow_sub-doc
overflow_sub-doc c = omega (arith, c.loop-i.invariant.inside)

pub newline_among-requires : goal.newline_among-requires
newline_among-requires c = omega (arith, c.loop-i-test.true, c.loop-i.invariant.inside)

pub returns-then-newline_among : goal.returns-then-newline_among
returns-then-newline_among c = c.loop-i.invariant

pub overflow_add-i : goal.overflow_add-i
overflow_add-i c = omega (arith, c.loop-i-test.true, c.loop-i.invariant.inside)

pub loop-i-smaller : goal.loop-i-smaller
loop-i-smaller c = omega (arith, c.loop-i-test.true, c.loop-i.invariant.inside)

pub loop-i-preserved : goal.loop-i-preserved
loop-i-preserved c = passed_then c.args.doc.now c.loop-i.invariant (c.newline_among.ensures c.if-newline_among.false)

pub returns : goal.returns
returns c = c.loop-i.invariant
