use Rattle.encoding.proofs.Reading.{handed-on}
use Rattle.encoding.proofs.Tables.{tables-hold}
use Rattle.std.proofs.Common.{◌∙◌}
use Rattle.shapes.proofs.Answers.{tables-failed, tables-whole}
use Rattle.shapes.proofs.accept.Goals as goal

pub accept_words-requires : goal.accept_words-requires
accept_words-requires c =
    let a = c.args in
    tables-hold a.words.now a.pairs.now a.text.now c.check_tables.ensures c.in_ok-check_tables.was

pub returns : goal.returns
returns c =
    let a = c.args in
    tables-whole a.words.now a.pairs.now a.text.now c.check_tables.ensures c.in_ok-check_tables.was c.accept_words.ensures

pub returns-in_err-check_tables : goal.returns-in_err-check_tables
returns-in_err-check_tables c =
    let a = c.args in
    handed-on c.from_residual.ensures.1 ∙ tables-failed a.words.now a.pairs.now a.text.now c.check_tables.ensures c.in_err-check_tables.was
