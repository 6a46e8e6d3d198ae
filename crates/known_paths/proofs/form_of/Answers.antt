use Rattle.known_paths.specs.Classes.{arity, name_count_of}
use Rattle.std.proofs.Common.{rules, arith}
use Rattle.std.proofs.lemmas.Grind.{common_steps}
use Rattle.known_paths.proofs.form_of.Goals as goal

pub returns-in-Counted : goal.returns-in-Counted
unfolding arity name_count_of
returns-in-Counted c = search rules

pub returns-in-Placebo : goal.returns-in-Placebo
unfolding arity name_count_of
returns-in-Placebo c = grind (arith, common_steps)

pub returns-in-MapClass : goal.returns-in-MapClass
unfolding arity name_count_of
returns-in-MapClass c = search rules
