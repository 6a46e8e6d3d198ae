use Rattle.capi.proofs.tillercoral_is_object_or_pointer.Goals as goal

pub returns : goal.returns
returns c = rw c.is_object_or_pointer.ensures at c.truth_number.ensures
