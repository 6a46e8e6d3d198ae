use Rattle.capi.proofs.Small.{part_small}
use Rattle.shapes.proofs.Parts.{rc-keeps}
use Rattle.capi.proofs.tillercoral_rc_underlying.Goals as goal

pub part_number-requires : goal.part_number-requires
part_number-requires c = part_small (rc-keeps _ _ _) c.rc_underlying_at.ensures

pub returns : goal.returns
returns c = rw c.rc_underlying_at.ensures at c.part_number.ensures
