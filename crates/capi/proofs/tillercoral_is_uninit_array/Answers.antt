use Rattle.capi.proofs.tillercoral_is_uninit_array.Goals as goal

pub returns : goal.returns
returns c = rw c.is_uninit_array.ensures at c.truth_number.ensures
