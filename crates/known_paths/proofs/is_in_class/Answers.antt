use Rattle.encoding.specs.Tables.{fixed_names}
use Rattle.rast.specs.Bytes.{ascii}
use Rattle.known_paths.specs.Classes.{in_class, name_count_of}
use Rattle.known_paths.specs.Paths.{BoxPath, MaybeUninitPath}
use Rattle.known_paths.proofs.Paths.{class-member}
use Rattle.std.proofs.Common.{◌≡◌, refl, ◌∙◌, arith}
use Rattle.std.proofs.lemmas.Grind.{common_steps}
use Rattle.known_paths.proofs.is_in_class.Goals as goal

pub is_counted-requires : goal.is_counted-requires
is_counted-requires c = (c.requires.0, c.requires.1)

pub is_in_std-requires : goal.is_in_std-requires
unfolding ascii fixed_names
is_in_std-requires c =
    (c.requires.0, c.requires.1, omega arith, refl, omega arith, refl)

pub is_in_std-requires-in-Uninit : goal.is_in_std-requires-in-Uninit
unfolding ascii fixed_names
is_in_std-requires-in-Uninit c =
    (c.requires.0, c.requires.1, omega arith, refl, omega arith, refl)

pub is_runtime_class-requires : goal.is_runtime_class-requires
is_runtime_class-requires c = (c.requires.0, c.requires.1)

pub returns-in-Counted : goal.returns-in-Counted
returns-in-Counted c = rw c.in-Counted.is c.is_counted.ensures

pub returns-in-Boxed : goal.returns-in-Boxed
unfolding in_class BoxPath fixed_names
returns-in-Boxed c = rw c.in-Boxed.is c.is_in_std.ensures

pub returns-in-Uninit : goal.returns-in-Uninit
unfolding in_class MaybeUninitPath fixed_names
returns-in-Uninit c = rw c.in-Uninit.is c.is_in_std-in-Uninit.ensures

pub returns-in-Placebo : goal.returns-in-Placebo
unfolding name_count_of
returns-in-Placebo c =
    let two : name_count_of c.args.class ≡ 2 = grind (arith, common_steps) in
    c.is_runtime_class.ensures ∙ class-member _ two _
