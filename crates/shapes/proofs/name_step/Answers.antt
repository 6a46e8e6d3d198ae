use Rattle.shapes.specs.Accepted.{name_step}
use Rattle.std.proofs.Common.{arith}
use Rattle.std.proofs.lemmas.Grind.{common_steps}
use Rattle.shapes.proofs.name_step.Goals as goal

pub returns-in-15 : goal.returns-in-15
unfolding name_step
returns-in-15 c = grind (arith, common_steps)

pub returns-in-15-2 : goal.returns-in-15-2
unfolding name_step
returns-in-15-2 c = grind (arith, common_steps)

pub returns-in-24 : goal.returns-in-24
unfolding name_step
returns-in-24 c = grind (arith, common_steps)

pub returns-in_default : goal.returns-in_default
unfolding name_step
returns-in_default c = grind (arith, common_steps)

pub returns-in_default-2 : goal.returns-in_default-2
unfolding name_step
returns-in_default-2 c = grind (arith, common_steps)
