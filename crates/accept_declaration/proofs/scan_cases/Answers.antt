use Rattle.accept_declaration.specs.Ends.{case_at}
use Rattle.declaration_walk.proofs.Scans.{counted-ended}
use mathlib.Core.Path.{◌∙◌, sym}
use Rattle.encoding.proofs.Reading.{handed-on}
use Rattle.accept_declaration.proofs.scan_cases.Goals as goal

pub returns : goal.returns
returns c =
    let a = c.args in
    c.scan_each_case.ensures ∙ sym (counted-ended a.words.now (case_at a.words.now a.pairs.now a.text.now) a.at (sym c.scan_word.ensures ∙ c.in_ok-value.was))

pub returns-in_err-value : goal.returns-in_err-value
returns-in_err-value c =
    let a = c.args in
    handed-on c.from_residual.ensures.1 ∙ sym (counted-ended a.words.now (case_at a.words.now a.pairs.now a.text.now) a.at (sym c.scan_word.ensures ∙ c.in_err-value.was))
