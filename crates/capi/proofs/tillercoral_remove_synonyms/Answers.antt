use Rattle.capi.proofs.Small.{part_small}
use Rattle.shapes.proofs.Parts.{removed-keeps}
use Rattle.capi.proofs.tillercoral_remove_synonyms.Goals as goal

pub part_number-requires : goal.part_number-requires
part_number-requires c = part_small (removed-keeps _ _ _) c.remove_synonyms_at.ensures

pub returns : goal.returns
returns c = rw c.remove_synonyms_at.ensures at c.part_number.ensures
