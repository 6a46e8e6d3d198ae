use Rattle.capi.proofs.tillercoral_is_builtin_collection.Goals as goal

pub returns : goal.returns
returns c = rw c.is_builtin_collection.ensures at c.truth_number.ensures
