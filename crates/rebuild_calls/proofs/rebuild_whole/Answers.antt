use Rattle.rebuild_type.specs.Laid.{mapping}
use Rattle.rebuild_calls.proofs.Wholes.{tree-laid, tree-readable}
use native.Mathlib.Omega.{arith}
use Rattle.rebuild_calls.proofs.rebuild_whole.Goals as goal

pub rebuild_type-requires : goal.rebuild_type-requires
rebuild_type-requires c =
    let s = c.requires in
    (s.0, s.1, tree-readable c.in-AType.is c.args.words.now c.args.pairs.now (mapping c.args.rules.now c.args.pairs.now c.args.text.now) s.2, omega arith, s.3)

pub rebuild_declaration-requires : goal.rebuild_declaration-requires
rebuild_declaration-requires c =
    let s = c.requires in
    (s.0, s.1, tree-readable c.in-ADeclaration.is c.args.words.now c.args.pairs.now (mapping c.args.rules.now c.args.pairs.now c.args.text.now) s.2, s.3)

pub returns-in-AType : goal.returns-in-AType
returns-in-AType c = tree-laid c.in-AType.is c.args.words.now c.args.pairs.now (mapping c.args.rules.now c.args.pairs.now c.args.text.now) c.rebuild_type.ensures

pub returns-in-ADeclaration : goal.returns-in-ADeclaration
returns-in-ADeclaration c = tree-laid c.in-ADeclaration.is c.args.words.now c.args.pairs.now (mapping c.args.rules.now c.args.pairs.now c.args.text.now) c.rebuild_declaration.ensures
