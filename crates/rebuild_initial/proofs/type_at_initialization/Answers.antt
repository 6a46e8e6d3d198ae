use Rattle.std.proofs.Common.{ap, ◌∙◌}
use Rattle.encoding.proofs.Tables.{tables-hold}
use Rattle.rebuild_type.specs.Calls.{laid_down}
use Rattle.rebuild_type.proofs.Calls.{down-failed, down-passed}
use Rattle.rebuild_initial.specs.Initialized.{whole_initialized}
use Rattle.rebuild_initial.proofs.Filling.{tables-tested}
use Rattle.encoding.proofs.Reading.{handed-on}
use Rattle.rebuild_initial.proofs.type_at_initialization.Goals as goal

pub accept_and_initialize-requires : goal.accept_and_initialize-requires
accept_and_initialize-requires c =
    let a = c.args in
    tables-hold a.words.now a.pairs.now a.text.now c.check_tables.ensures c.in_ok-check_tables.was

pub returns : goal.returns
returns c =
    let a = c.args in
    down-passed a.out.now (whole_initialized a.words.now a.pairs.now a.text.now) c.check_tables.ensures c.in_ok-check_tables.was c.accept_and_initialize.ensures
    ∙ ap (laid_down a.out.now) (tables-tested a.words.now a.pairs.now a.text.now)

pub returns-in_err-check_tables : goal.returns-in_err-check_tables
returns-in_err-check_tables c =
    let a = c.args in
    rw (handed-on c.from_residual.ensures.1) (down-failed a.out.now (whole_initialized a.words.now a.pairs.now a.text.now) c.check_tables.ensures c.in_err-check_tables.was
    ∙ ap (laid_down a.out.now) (tables-tested a.words.now a.pairs.now a.text.now))
