use Rattle.capi.proofs.tillercoral_is_box.Goals as goal

pub returns : goal.returns
returns c = rw c.is_box.ensures at c.truth_number.ensures
