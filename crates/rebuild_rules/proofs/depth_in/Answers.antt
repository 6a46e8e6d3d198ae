use Rattle.rebuild_rules.proofs.Lists.{leaf-depth, one_type, tree-depth}
use mathlib.Core.Path.{sym}
use Rattle.rebuild_rules.proofs.depth_in.Goals as goal

pub returns-then-count-eq1 : goal.returns-then-count-eq1
returns-then-count-eq1 c =
    let a = c.args in let pre = c.requires in sym (leaf-depth a.words.now a.pairs.now a.at pre.0 c.if-count-eq1.true pre.1)

pub deepest-type_there-requires : goal.deepest-type_there-requires
deepest-type_there-requires c =
    let a = c.args in let pre = c.requires in (pre.0, one_type a.words.now a.pairs.now a.at pre.1.reads)

pub returns : goal.returns
returns c =
    let a = c.args in tree-depth a.words.now a.pairs.now a.at _ c.requires.1 c.deepest-type_there.ensures
