use Rattle.sound_type.proofs.step_to.Goals as goal

pub returns : goal.returns
returns c = rw c.ask_next.ensures
