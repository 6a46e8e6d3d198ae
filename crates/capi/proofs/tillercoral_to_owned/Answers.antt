use Rattle.capi.proofs.Small.{part_small}
use Rattle.shapes.proofs.Parts.{owned-keeps}
use Rattle.capi.proofs.tillercoral_to_owned.Goals as goal

pub part_number-requires : goal.part_number-requires
part_number-requires c = part_small (owned-keeps _ _ _) c.to_owned_at.ensures

pub returns : goal.returns
returns c = rw c.to_owned_at.ensures at c.part_number.ensures
