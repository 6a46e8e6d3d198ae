use Rattle.encoding.specs.Tested.{check_call}
use mathlib.Core.Path.{◌∙◌, sym}
use Rattle.encoding.proofs.Reading.{handed-on}
use Rattle.encoding.proofs.check_call.Goals as goal

pub returns-in_err-check_level : goal.returns-in_err-check_level
unfolding check_call
returns-in_err-check_level c = rw (handed-on c.from_residual.ensures.1, sym c.check_level.ensures ∙ c.in_err-check_level.was)

pub returns : goal.returns
unfolding check_call
returns c = c.check_tables.ensures ∙ rw (sym c.check_level.ensures ∙ c.in_ok-check_level.was)
