use Rattle.text_doc.proofs.Laying.{reached-all, reached-fits, reached-more, reached-start}
use Rattle.rast.specs.Indent.{indent}
use native.Mathlib.Omega.{arith}
use borrow.Author.Rules.{rules}
use Rattle.text_doc.proofs.lay_converted.Goals as goal

pub loop-place-init : goal.loop-place-init
loop-place-init c =
    let a = c.args in
    (search rules, reached-start (indent a.level) a.doc.now a.out.now a.pos)

pub lay_piece-next-requires : goal.lay_piece-next-requires
lay_piece-next-requires c =
    let s = c.step_at-step in
    (s.ensures.inside, reached-fits s.result c.requires c.loop-place.invariant.1 s.ensures)

pub loop-place-smaller : goal.loop-place-smaller
loop-place-smaller c = omega (arith, c.step_at-step.ensures.onward)

pub loop-place-preserved : goal.loop-place-preserved
loop-place-preserved c =
    let s = c.step_at-step in
    (search rules, reached-more s.result c.loop-place.invariant.1 s.ensures c.lay_piece-next.ensures)

pub returns : goal.returns
returns c = reached-all c.loop-place-test.false c.loop-place.invariant.1
