use Rattle.rebuild_rules.specs.Table.{linked, slot_of}
use mathlib.Core.Path.{refl}
use Rattle.rebuild_rules.proofs.link_rule.Goals as goal

pub returns : goal.returns
unfolding linked slot_of
returns c = rw c.slot_of-s.ensures.0 refl
