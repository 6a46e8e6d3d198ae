use Rattle.declaration_walk.specs.Walks.{read_attributes, read_one_attribute}
use Rattle.declaration_walk.proofs.Scans.{counted-ended}
use Rattle.encoding.proofs.Reading.{handed-on}
use mathlib.Core.Path.{◌∙◌, sym}
use Rattle.declaration_walk.proofs.scan_attributes.Goals as goal

pub returns : goal.returns
unfolding read_attributes
returns c =
    let a = c.args in
    c.scan_each_attribute.ensures ∙ sym (counted-ended a.words.now (read_one_attribute a.bound a.words.now) a.at (sym c.scan_word.ensures ∙ c.in_ok-value.was))

pub returns-in_err-value : goal.returns-in_err-value
unfolding read_attributes
returns-in_err-value c =
    let a = c.args in
    handed-on c.from_residual.ensures.1 ∙ sym (counted-ended a.words.now (read_one_attribute a.bound a.words.now) a.at (sym c.scan_word.ensures ∙ c.in_err-value.was))
