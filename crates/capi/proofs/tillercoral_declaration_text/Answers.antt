use mathlib.Core.Path.{ap}
use Rattle.answer_numbers.specs.Numbers.{count_call}
use Rattle.capi.proofs.tillercoral_declaration_text.Goals as goal

pub returns : goal.returns
returns c = rw c.count_number.ensures (ap count_call c.declaration_text.ensures)
