use Rattle.accept_declaration.proofs.Ends.{case-ended}
use mathlib.Core.Path.{◌∙◌, sym}
use Rattle.encoding.proofs.Reading.{handed-on}
use Rattle.accept_declaration.proofs.scan_case.Goals as goal

pub returns : goal.returns
returns c =
    let a = c.args in
    c.scan_fields.ensures ∙ sym (case-ended a.words.now a.pairs.now a.text.now a.at (sym (rw c.name_count-bound.ensures at c.scan_two.ensures) ∙ c.in_ok-next.was))

pub returns-in_err-next : goal.returns-in_err-next
returns-in_err-next c =
    let a = c.args in
    handed-on c.from_residual.ensures.1 ∙ sym (case-ended a.words.now a.pairs.now a.text.now a.at (sym (rw c.name_count-bound.ensures at c.scan_two.ensures) ∙ c.in_err-next.was))
