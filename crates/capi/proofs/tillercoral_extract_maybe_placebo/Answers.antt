use Rattle.capi.proofs.Small.{part_small}
use Rattle.shapes.proofs.Parts.{placebo-keeps}
use Rattle.capi.proofs.tillercoral_extract_maybe_placebo.Goals as goal

pub part_number-requires : goal.part_number-requires
part_number-requires c = part_small (placebo-keeps _ _ _) c.extract_maybe_placebo_at.ensures

pub returns : goal.returns
returns c = rw c.extract_maybe_placebo_at.ensures at c.part_number.ensures
