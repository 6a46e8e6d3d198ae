use Rattle.capi.proofs.tillercoral_is_pointer.Goals as goal

pub returns : goal.returns
returns c = rw c.is_pointer.ensures at c.truth_number.ensures
