use Rattle.capi.proofs.tillercoral_is_box_dyn.Goals as goal

pub returns : goal.returns
returns c = rw c.is_box_dyn.ensures at c.truth_number.ensures
