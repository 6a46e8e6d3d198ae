use Rattle.capi.proofs.tillercoral_type_is_sound.Goals as goal

pub returns : goal.returns
returns c = rw c.type_is_sound.ensures at c.truth_number.ensures
