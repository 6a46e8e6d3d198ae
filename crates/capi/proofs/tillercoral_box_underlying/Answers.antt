use Rattle.capi.proofs.Small.{part_small}
use Rattle.shapes.proofs.Parts.{box-keeps}
use Rattle.capi.proofs.tillercoral_box_underlying.Goals as goal

pub part_number-requires : goal.part_number-requires
part_number-requires c = part_small (box-keeps _ _ _) c.box_underlying_at.ensures

pub returns : goal.returns
returns c = rw c.box_underlying_at.ensures at c.part_number.ensures
