use Rattle.capi.proofs.tillercoral_is_auto_size.Goals as goal

pub returns : goal.returns
returns c = rw c.is_auto_size.ensures at c.truth_number.ensures
