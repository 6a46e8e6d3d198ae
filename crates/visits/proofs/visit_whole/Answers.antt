use Rattle.visits.proofs.Answers.{type-due, type-visited}
use Rattle.visits.proofs.visit_whole.Goals as goal

pub visit_types-all-requires : goal.visit_types-all-requires
visit_types-all-requires c =
    let a = c.args in
    type-due a.words.now a.pairs.now a.text.now c.requires.0 (rw c.in-AType.is at c.requires.1)

pub visit_declaration-requires : goal.visit_declaration-requires
visit_declaration-requires c =
    (c.requires.0, rw c.in-ADeclaration.is at c.requires.1)

pub returns-in-AType : goal.returns-in-AType
returns-in-AType c =
    let a = c.args in
    rw c.in-AType.is (type-visited a.words.now a.pairs.now a.text.now (rw c.in-AType.is at c.requires.1) c.visit_types-all.ensures)

pub returns-in-ADeclaration : goal.returns-in-ADeclaration
returns-in-ADeclaration c =
    rw c.in-ADeclaration.is c.visit_declaration.ensures
