use Rattle.encoding.proofs.Tables.{tables-hold}
use Rattle.accept_declaration.specs.declared.Whole.TheVariants.{AType}
use Rattle.visits.proofs.Answers.{tables-failed-visits, tables-passed-visits}
use Rattle.encoding.proofs.Reading.{handed-on}
use Rattle.visits.proofs.type_visit.Goals as goal

pub fill_type-requires : goal.fill_type-requires
fill_type-requires c =
    let a = c.args in
    tables-hold a.words.now a.pairs.now a.text.now c.check_tables.ensures c.in_ok-check_tables.was

pub returns : goal.returns
returns c =
    let a = c.args in
    tables-passed-visits a.words.now a.pairs.now a.text.now AType a.out.now c.check_tables.ensures c.in_ok-check_tables.was c.fill_type.ensures

pub returns-in_err-check_tables : goal.returns-in_err-check_tables
returns-in_err-check_tables c =
    let a = c.args in
    rw (handed-on c.from_residual.ensures.1) (tables-failed-visits a.words.now a.pairs.now a.text.now AType a.out.now c.check_tables.ensures c.in_err-check_tables.was)
