use Rattle.capi.proofs.Small.{part_small}
use Rattle.shapes.proofs.Parts.{box-dyn-keeps}
use Rattle.capi.proofs.tillercoral_box_dyn_underlying.Goals as goal

pub part_number-requires : goal.part_number-requires
part_number-requires c = part_small (box-dyn-keeps _ _ _) c.box_dyn_underlying_at.ensures

pub returns : goal.returns
returns c = rw c.box_dyn_underlying_at.ensures at c.part_number.ensures
