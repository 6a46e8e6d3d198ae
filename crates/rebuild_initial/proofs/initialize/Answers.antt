use Rattle.std.proofs.Common.{refl, ap, subst}
use Rattle.rebuild_initial.specs.Initialized.{Points, under_pointer}
use Rattle.rebuild_initial.proofs.Filling.{stays, whole-readable}
use Rattle.rebuild_initial.proofs.Changes.{no_pointer}
use Rattle.rebuild_initial.proofs.initialize.Goals as goal

pub initialize_under-requires : goal.initialize_under-requires
initialize_under-requires c =
    let s = c in let a = s.args in
    (s.requires.0, s.requires.1, s.requires.2, subst (Points a.words.now a.pairs.now a.text.now) c.in-Some.is c.find_pointer.ensures)

pub returns-in-None : goal.returns-in-None
unfolding under_pointer
returns-in-None c =
    let s = c in let a = s.args in
    stays a.words.now a.pairs.now a.text.now s.requires.2 (no_pointer a.words.now a.pairs.now a.text.now (whole-readable s.requires.2) c.find_pointer.ensures.part (ap under_pointer c.in-None.is)) refl c.copy_unaltered.ensures
