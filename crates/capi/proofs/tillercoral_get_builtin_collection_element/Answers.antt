use Rattle.capi.proofs.Small.{part_small}
use Rattle.shapes.proofs.Parts.{collection-keeps}
use Rattle.capi.proofs.tillercoral_get_builtin_collection_element.Goals as goal

pub part_number-requires : goal.part_number-requires
part_number-requires c = part_small (collection-keeps _ _ _) c.get_builtin_collection_element_at.ensures

pub returns : goal.returns
returns c = rw c.get_builtin_collection_element_at.ensures at c.part_number.ensures
