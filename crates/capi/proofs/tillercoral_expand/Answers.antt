use Rattle.capi.proofs.Small.{part_small}
use Rattle.shapes.proofs.Parts.{expanded_keeps}
use Rattle.capi.proofs.tillercoral_expand.Goals as goal

pub part_number-requires : goal.part_number-requires
part_number-requires c = part_small (expanded_keeps _ _ _) c.expand_at.ensures

pub returns : goal.returns
returns c = rw c.expand_at.ensures at c.part_number.ensures
