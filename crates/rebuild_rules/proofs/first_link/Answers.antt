use mathlib.Core.Path.{ap}
use lib.ListN.{get_or}
use Rattle.rebuild_rules.proofs.first_link.Goals as goal

pub returns : goal.returns
returns c = ap (λ j. get_or c.args.table.now j 0) c.slot_of.ensures.0
