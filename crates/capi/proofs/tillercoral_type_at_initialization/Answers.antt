use Rattle.answer_numbers.specs.Numbers.{count_call}
use mathlib.Core.Path.{ap}
use Rattle.capi.proofs.tillercoral_type_at_initialization.Goals as goal

pub returns : goal.returns
returns c = rw c.count_number.ensures (ap count_call c.type_at_initialization.ensures)
