use Rattle.capi.proofs.Small.{part_small}
use Rattle.shapes.proofs.Parts.{multi-array-keeps}
use Rattle.capi.proofs.tillercoral_multi_array_underlying.Goals as goal

pub part_number-requires : goal.part_number-requires
part_number-requires c = part_small (multi-array-keeps _ _ _) c.multi_array_underlying_at.ensures

pub returns : goal.returns
returns c = rw c.multi_array_underlying_at.ensures at c.part_number.ensures
