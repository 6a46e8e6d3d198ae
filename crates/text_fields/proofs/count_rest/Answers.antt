use mathlib.Core.Path.{◌∙◌, ap, refl}
use Rattle.std.specs.Prelude.{Ok}
use Rattle.text_formal.proofs.Texts.{label-none, label-open, label-whole}
use Rattle.text_pass.proofs.Passes.{stops-here}
use Rattle.text_pass.specs.Passes.{came}
use Rattle.text_fields.proofs.Fields.{went-handed}
use Rattle.text_fields.proofs.count_rest.Goals as goal

pub returns-in-Open : goal.returns-in-Open
returns-in-Open c = (label-open c.count_label.ensures (c.in_ok-label.was ∙ ap Ok c.in-Open.is)).ends _ _ c.count_field_type.ensures

pub returns-in-Whole : goal.returns-in-Whole
returns-in-Whole c = came (label-whole c.count_label.ensures (c.in_ok-label.was ∙ ap Ok c.in-Whole.is))

pub returns-in_err-label : goal.returns-in_err-label
returns-in_err-label c = went-handed refl c.from_residual.ensures.1 (stops-here (label-none c.count_label.ensures c.in_err-label.was))
