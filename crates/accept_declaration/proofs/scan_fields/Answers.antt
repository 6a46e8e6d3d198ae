use Rattle.accept_declaration.proofs.Ends.{fields-ended}
use mathlib.Core.Path.{◌∙◌, sym}
use Rattle.encoding.proofs.Reading.{handed-on}
use Rattle.accept_declaration.proofs.scan_fields.Goals as goal

pub returns : goal.returns
returns c =
    let a = c.args in
    c.scan_each_field.ensures ∙ sym (fields-ended a.words.now a.pairs.now a.text.now a.at (sym c.scan_entry.ensures ∙ c.in_ok-first.was))

pub returns-in_err-first : goal.returns-in_err-first
returns-in_err-first c =
    let a = c.args in
    handed-on c.from_residual.ensures.1 ∙ sym (fields-ended a.words.now a.pairs.now a.text.now a.at (sym c.scan_entry.ensures ∙ c.in_err-first.was))
