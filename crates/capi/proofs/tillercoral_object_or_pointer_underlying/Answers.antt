use Rattle.capi.proofs.Small.{part_small}
use Rattle.shapes.proofs.Parts.{pointer-keeps}
use Rattle.capi.proofs.tillercoral_object_or_pointer_underlying.Goals as goal

pub part_number-requires : goal.part_number-requires
part_number-requires c = part_small (pointer-keeps _ _ _) c.object_or_pointer_underlying_at.ensures

pub returns : goal.returns
returns c = rw c.object_or_pointer_underlying_at.ensures at c.part_number.ensures
