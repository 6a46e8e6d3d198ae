use Rattle.capi.proofs.tillercoral_is_multi_array.Goals as goal

pub returns : goal.returns
returns c = rw c.is_multi_array.ensures at c.truth_number.ensures
