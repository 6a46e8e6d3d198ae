use Rattle.capi.proofs.tillercoral_can_read_without_clone.Goals as goal

pub returns : goal.returns
returns c = rw c.can_read_without_clone.ensures at c.truth_number.ensures
