use Rattle.std.proofs.Common.{ltb, ap}
use Rattle.rebuild_initial.proofs.Filling.{element-spans, element-within}
use Rattle.rebuild_initial.proofs.is_too_deep.Goals as goal

pub returns-then-not-deepest : goal.returns-then-not-deepest
returns-then-not-deepest c =
    let s = c in let a = s.args in element-within a.words.now a.pairs.now a.element s.requires c.if-not-deepest.true

pub depth_in-requires : goal.depth_in-requires
depth_in-requires c =
    let s = c in let a = s.args in (s.requires.inside, element-spans a.words.now a.pairs.now a.element s.requires)

pub returns : goal.returns
returns c = ap (ltb 61) c.depth_in.ensures
