use Rattle.rebuild_rules.proofs.Links.{along-less, along-then, along-within, found-behind, found-here, found-none}
use native.Mathlib.Omega.{arith}
use Rattle.rebuild_rules.proofs.first_along.Goals as goal

pub loop-next-init : goal.loop-next-init
loop-next-init g c = (c.requires.along, λ r f. f)

pub passes-requires : goal.passes-requires
passes-requires g c = c.requires.callable _ (along-within c.requires.linked.1 c.loop-next.invariant.0.1 c.loop-next-test.true)

pub returns-then-passes : goal.returns-then-passes
returns-then-passes g c = c.loop-next.invariant.1 _ (found-here c.loop-next-test.true c.passes.ensures c.if-passes.true)

pub entry-next-requires : goal.entry-next-requires
entry-next-requires g c =
    let w = along-within c.requires.linked.1 c.loop-next.invariant.0.1 c.loop-next-test.true in
    (omega (arith, w, c.requires.linked.0), omega arith)

pub loop-next-smaller : goal.loop-next-smaller
loop-next-smaller g c = along-less c.requires.linked.1 c.loop-next.invariant.0.1 c.loop-next-test.true c.entry-next.ensures

pub loop-next-preserved : goal.loop-next-preserved
loop-next-preserved g c = (
  (_, along-then c.requires.linked.1 c.loop-next.invariant.0.1 c.loop-next-test.true c.entry-next.ensures),
  λ r f. c.loop-next.invariant.1 r (found-behind c.loop-next-test.true c.passes.ensures c.if-passes.false c.entry-next.ensures f),
)

pub returns : goal.returns
returns g c = c.loop-next.invariant.1 _ (found-none (omega (arith, c.loop-next-test.false)))
