use Rattle.text_fields.proofs.Fields.{went-handed}
use mathlib.Core.Path.{sym, refl}
use mathlib.Core.Bool.{true}
use Rattle.encoding.specs.Reading.{read_below}
use Rattle.encoding.proofs.Reading.{read-got, read-stop}
use Rattle.text_pass.proofs.Passes.{stops-here, went-as}
use Rattle.text_declaration.proofs.Declarations.{case-listed, fields-stop}
use Rattle.text_declaration.proofs.count_case_fields.Goals as goal

pub returns : goal.returns
returns c =
    let a = c.args in
    let e = read-got (read_below 2 a.words.now a.at) c.scan_below.ensures c.in_ok-value.was in
    went-as (sym (case-listed a.words.now a.pairs.now a.text.now a.level a.at e c.fields_entry-entry.ensures)) c.count_list.ensures

pub returns-in_err-value : goal.returns-in_err-value
returns-in_err-value c =
    let a = c.args in
    went-handed refl c.from_residual.ensures.1 (stops-here (fields-stop a.words.now a.pairs.now a.text.now true a.level a.at (read-stop (read_below 2 a.words.now a.at) c.scan_below.ensures c.in_err-value.was)))
