use Rattle.capi.proofs.tillercoral_is_rc.Goals as goal

pub returns : goal.returns
returns c = rw c.is_rc.ensures at c.truth_number.ensures
