use Rattle.capi.proofs.tillercoral_is_maybe_uninit.Goals as goal

pub returns : goal.returns
returns c = rw c.is_maybe_uninit.ensures at c.truth_number.ensures
