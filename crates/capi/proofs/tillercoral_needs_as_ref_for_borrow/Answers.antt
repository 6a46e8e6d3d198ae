use Rattle.capi.proofs.tillercoral_needs_as_ref_for_borrow.Goals as goal

pub returns : goal.returns
returns c = rw c.needs_as_ref_for_borrow.ensures at c.truth_number.ensures
