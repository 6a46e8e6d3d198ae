use Rattle.std.proofs.Common.{refl, subst}
use Rattle.encoding.specs.Tables.{name_bytes}
use Rattle.tree_words.specs.Renamed.{renamed}
use Rattle.shapes.specs.Initialization.{own_number, new_underlying}
use Rattle.rebuild_initial.specs.Initialized.{Becomes, under_pointer}
use Rattle.rebuild_initial.proofs.Filling.{stays, whole-readable}
use Rattle.rebuild_initial.proofs.Changes.{pointed-becomes, pointed-readable}
use Rattle.rebuild_initial.proofs.initialize_under.Goals as goal

pub array_at-requires : goal.array_at-requires
unfolding under_pointer
array_at-requires c =
    let s = c in let a = s.args in
    (s.requires.0, pointed-readable a.words.now a.pairs.now a.text.now (whole-readable s.requires.2) s.requires.3.part refl)

pub change-requires : goal.change-requires
unfolding under_pointer
change-requires c =
    let s = c in let a = s.args in
    let b = subst (Becomes (new_underlying own_number (renamed (name_bytes a.pairs.now a.text.now))) 1 a.words.now a.pairs.now a.at) c.in-Some.is c.array_at.ensures in
    (s.requires.1, s.requires.2, s.requires.3.name a.name a.at refl, pointed-becomes a.words.now a.pairs.now a.text.now (whole-readable s.requires.2) s.requires.3.part refl b)

pub returns-in-None : goal.returns-in-None
unfolding under_pointer
returns-in-None c =
    let s = c in let a = s.args in
    stays a.words.now a.pairs.now a.text.now s.requires.2 (pointed-becomes a.words.now a.pairs.now a.text.now (whole-readable s.requires.2) s.requires.3.part refl c.array_at.ensures) c.in-None.is c.copy_unaltered.ensures
