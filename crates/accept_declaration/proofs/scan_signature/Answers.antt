use Rattle.accept_declaration.specs.Ends.{parameter_at}
use Rattle.accept_declaration.proofs.Ends.{signature-ended}
use mathlib.Core.Path.{◌∙◌, sym}
use Rattle.encoding.proofs.Reading.{handed-on}
use Rattle.accept_declaration.proofs.scan_signature.Goals as goal

pub returns : goal.returns
returns c =
    let a = c.args in
    c.scan_each_parameter.ensures ∙ sym (signature-ended a.words.now a.pairs.now a.text.now (parameter_at a.words.now a.pairs.now a.text.now) a.at (sym (rw c.name_count.ensures at c.scan_entry.ensures) ∙ c.in_ok-second.was))

pub returns-in_err-second : goal.returns-in_err-second
returns-in_err-second c =
    let a = c.args in
    handed-on c.from_residual.ensures.1 ∙ sym (signature-ended a.words.now a.pairs.now a.text.now (parameter_at a.words.now a.pairs.now a.text.now) a.at (sym (rw c.name_count.ensures at c.scan_entry.ensures) ∙ c.in_err-second.was))
