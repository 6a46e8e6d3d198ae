use Rattle.accept_declaration.proofs.Ends.{struct-ended}
use mathlib.Core.Path.{◌∙◌, sym}
use Rattle.encoding.proofs.Reading.{handed-on}
use Rattle.accept_declaration.proofs.scan_struct.Goals as goal

pub returns : goal.returns
returns c =
    let a = c.args in
    c.scan_fields.ensures ∙ sym (struct-ended a.words.now a.pairs.now a.text.now a.at (sym c.scan_heading.ensures ∙ c.in_ok-next.was))

pub returns-in_err-next : goal.returns-in_err-next
returns-in_err-next c =
    let a = c.args in
    handed-on c.from_residual.ensures.1 ∙ sym (struct-ended a.words.now a.pairs.now a.text.now a.at (sym c.scan_heading.ensures ∙ c.in_err-next.was))
