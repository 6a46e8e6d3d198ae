use Rattle.encoding.specs.Tables.{fixed_names}
use Rattle.rast.specs.Bytes.{ascii}
use Rattle.known_paths.specs.Paths.{ArcPath, RcPath}
use Rattle.known_paths.proofs.Paths.{counted-no, counted-yes}
use Rattle.std.proofs.Common.{refl, arith}
use Rattle.known_paths.proofs.is_counted.Goals as goal

pub is_in_std-requires : goal.is_in_std-requires
unfolding ascii fixed_names
is_in_std-requires c = (c.requires.0, c.requires.1, omega arith, refl, omega arith, refl)

pub returns-then-is_in_std : goal.returns-then-is_in_std
unfolding RcPath fixed_names
returns-then-is_in_std c = counted-yes _ c.is_in_std.ensures c.if-is_in_std.true

pub is_in_std-requires-2 : goal.is_in_std-requires-2
unfolding ascii fixed_names
is_in_std-requires-2 c =
    (c.requires.0, c.requires.1, omega arith, refl, omega arith, refl)

pub returns : goal.returns
unfolding RcPath ArcPath fixed_names
returns c = counted-no _ c.is_in_std.ensures c.if-is_in_std.false c.is_in_std-2.ensures
