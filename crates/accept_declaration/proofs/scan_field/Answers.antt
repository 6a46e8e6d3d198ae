use Rattle.accept_declaration.proofs.Ends.{field-ended, named-member, nameless-member}
use mathlib.Core.Path.{◌∙◌, sym}
use Rattle.encoding.proofs.Reading.{handed-on}
use Rattle.accept_declaration.proofs.scan_field.Goals as goal

pub returns-then-kind-eq-NAMED : goal.returns-then-kind-eq-NAMED
returns-then-kind-eq-NAMED c =
    let a = c.args in
    c.scan_formal.ensures ∙ named-member a.words.now a.pairs.now a.text.now a.kind _ c.if-kind-eq-NAMED.true ∙ sym (field-ended a.words.now a.pairs.now a.text.now a.kind a.at (sym c.scan_below.ensures ∙ c.in_ok-next.was))

pub returns : goal.returns
returns c =
    let a = c.args in
    c.scan_type.ensures ∙ nameless-member a.words.now a.pairs.now a.text.now a.kind _ c.if-kind-eq-NAMED.false ∙ sym (field-ended a.words.now a.pairs.now a.text.now a.kind a.at (sym c.scan_below.ensures ∙ c.in_ok-next.was))

pub returns-in_err-next : goal.returns-in_err-next
returns-in_err-next c =
    let a = c.args in
    handed-on c.from_residual.ensures.1 ∙ sym (field-ended a.words.now a.pairs.now a.text.now a.kind a.at (sym c.scan_below.ensures ∙ c.in_err-next.was))
