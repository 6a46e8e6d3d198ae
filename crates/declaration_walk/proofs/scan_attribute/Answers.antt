use Rattle.declaration_walk.proofs.Scans.{attribute-ended}
use Rattle.encoding.proofs.Reading.{handed-on}
use mathlib.Core.Path.{◌∙◌, sym}
use Rattle.declaration_walk.proofs.scan_attribute.Goals as goal

pub returns : goal.returns
returns c =
    let a = c.args in
    c.scan_names.ensures ∙ sym (attribute-ended a.bound a.words.now a.at (sym c.scan_entry.ensures ∙ c.in_ok-second.was))

pub returns-in_err-second : goal.returns-in_err-second
returns-in_err-second c =
    let a = c.args in
    handed-on c.from_residual.ensures.1 ∙ sym (attribute-ended a.bound a.words.now a.at (sym c.scan_entry.ensures ∙ c.in_err-second.was))
