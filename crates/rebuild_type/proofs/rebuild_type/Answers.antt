use Rattle.rebuild_type.proofs.Types.{one-rebuilt}
use Rattle.rebuild_type.specs.Laid.{mapping}
use Rattle.rebuild_rules.proofs.Lists.{one_type}
use Rattle.tree_words.proofs.Heads.{tree-here}
use native.Mathlib.Omega.{arith}
use Rattle.rebuild_type.proofs.rebuild_type.Goals as goal

pub rebuild_types-requires : goal.rebuild_types-requires
rebuild_types-requires c =
    let a = c.args in let pre = c.requires in
    (pre.0, pre.1, omega (arith, tree-here a.words.now a.pairs.now a.at pre.2.reads), one_type a.words.now a.pairs.now a.at pre.2.reads, pre.3, pre.4)

pub returns : goal.returns
returns c =
    let a = c.args in
    one-rebuilt a.words.now a.pairs.now (mapping a.rules.now a.pairs.now a.text.now) a.at c.requires.2 c.rebuild_types.ensures
