use mathlib.Core.Path.{ap, sym}
use Rattle.visits.specs.Visited.{is_entered}
use Rattle.visits.proofs.is_entered.Goals as goal

pub returns-in-Constraint : goal.returns-in-Constraint
unfolding is_entered
returns-in-Constraint c = sym (ap is_entered c.in-Constraint.is)

pub returns-in-StructField : goal.returns-in-StructField
unfolding is_entered
returns-in-StructField c = sym (ap is_entered c.in-StructField.is)

pub returns-in-CaseField : goal.returns-in-CaseField
unfolding is_entered
returns-in-CaseField c = sym (ap is_entered c.in-CaseField.is)

pub returns-in-Aliased : goal.returns-in-Aliased
unfolding is_entered
returns-in-Aliased c = sym (ap is_entered c.in-Aliased.is)
