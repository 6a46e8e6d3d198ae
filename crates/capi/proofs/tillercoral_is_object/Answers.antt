use Rattle.capi.proofs.tillercoral_is_object.Goals as goal

pub returns : goal.returns
returns c = rw c.is_object.ensures at c.truth_number.ensures
