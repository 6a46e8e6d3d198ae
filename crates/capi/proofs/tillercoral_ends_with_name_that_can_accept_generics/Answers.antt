use Rattle.capi.proofs.tillercoral_ends_with_name_that_can_accept_generics.Goals as goal

pub returns : goal.returns
returns c = rw c.ends_with_name_that_can_accept_generics.ensures at c.truth_number.ensures
