use Rattle.rebuild_rules.specs.Table.{entered}
use Rattle.std.proofs.Common.{rules}
use Rattle.rebuild_rules.proofs.enter_rule.Goals as goal

pub returns : goal.returns
unfolding entered
returns c = search rules
