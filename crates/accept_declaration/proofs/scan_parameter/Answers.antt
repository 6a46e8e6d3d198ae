use Rattle.accept_declaration.proofs.Ends.{parameter-ended}
use mathlib.Core.Path.{◌∙◌, sym}
use Rattle.encoding.proofs.Reading.{handed-on}
use Rattle.accept_declaration.proofs.scan_parameter.Goals as goal

pub returns : goal.returns
returns c =
    let a = c.args in
    c.scan_types.ensures ∙ sym (parameter-ended a.words.now a.pairs.now a.text.now a.at (sym (rw c.name_count.ensures at c.scan_entry.ensures) ∙ c.in_ok-second.was))

pub returns-in_err-second : goal.returns-in_err-second
returns-in_err-second c =
    let a = c.args in
    handed-on c.from_residual.ensures.1 ∙ sym (parameter-ended a.words.now a.pairs.now a.text.now a.at (sym (rw c.name_count.ensures at c.scan_entry.ensures) ∙ c.in_err-second.was))
