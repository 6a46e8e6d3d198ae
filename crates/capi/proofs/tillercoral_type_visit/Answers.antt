use Rattle.answer_numbers.specs.Numbers.{visit_call}
use mathlib.Core.Path.{ap}
use Rattle.capi.proofs.tillercoral_type_visit.Goals as goal

pub returns : goal.returns
returns c = rw c.visit_number.ensures (ap visit_call c.type_visit.ensures)
