use Rattle.text_fields.proofs.Fields.{went-handed}
use mathlib.Core.Path.{sym, refl}
use mathlib.Core.Bool.{false}
use Rattle.encoding.specs.Reading.{read_below}
use Rattle.encoding.proofs.Reading.{read-got, read-stop}
use Rattle.text_pass.proofs.Passes.{ready-as, stops-here, went-as}
use Rattle.text_declaration.proofs.Declarations.{fields-listed, fields-stop}
use Rattle.text_declaration.proofs.lay_fields.Goals as goal

pub lay_listed-requires : goal.lay_listed-requires
lay_listed-requires c =
    let a = c.args in
    let fields = fields-listed a.words.now a.pairs.now a.text.now a.level a.at (read-got (read_below 2 a.words.now a.at) c.scan_below.ensures c.in_ok-value.was) false c.fields_entry-entry.ensures in
    (c.requires.0, c.requires.1, ready-as fields c.requires.2)

pub returns : goal.returns
returns c =
    let a = c.args in
    let fields = fields-listed a.words.now a.pairs.now a.text.now a.level a.at (read-got (read_below 2 a.words.now a.at) c.scan_below.ensures c.in_ok-value.was) false c.fields_entry-entry.ensures in
    went-as (sym fields) c.lay_listed.ensures

pub returns-in_err-value : goal.returns-in_err-value
returns-in_err-value c =
    let a = c.args in
    went-handed refl c.from_residual.ensures.1 (stops-here (fields-stop a.words.now a.pairs.now a.text.now false a.level a.at (read-stop (read_below 2 a.words.now a.at) c.scan_below.ensures c.in_err-value.was)))
