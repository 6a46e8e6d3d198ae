use Rattle.encoding.specs.Tables.{fixed_names}
use Rattle.rast.specs.Bytes.{◌and◌, among, ascii, same}
use Rattle.known_paths.proofs.Paths.{set_first, set-second, set-third}
use Rattle.std.proofs.Common.{refl}
use Rattle.known_paths.proofs.is_set_name.Goals as goal

pub is_other_name-requires : goal.is_other_name-requires
unfolding ascii fixed_names among same ◌and◌
is_other_name-requires c = (c.requires.0, c.requires.1, refl)

pub returns-then-is_other_name : goal.returns-then-is_other_name
unfolding ascii
returns-then-is_other_name c = set_first _ c.is_other_name.ensures c.if-is_other_name.true

pub is_other_name-requires-2 : goal.is_other_name-requires-2
unfolding ascii fixed_names among same ◌and◌
is_other_name-requires-2 c = (c.requires.0, c.requires.1, refl)

pub returns-then-is_other_name-2 : goal.returns-then-is_other_name-2
unfolding ascii
returns-then-is_other_name-2 c =
    set-second _ c.is_other_name.ensures c.if-is_other_name.false c.is_other_name-2.ensures c.if-is_other_name-2.true

pub is_other_name-requires-3 : goal.is_other_name-requires-3
unfolding ascii fixed_names among same ◌and◌
is_other_name-requires-3 c =
    (c.requires.0, c.requires.1, refl)

pub returns : goal.returns
unfolding ascii
returns c =
    set-third _ c.is_other_name.ensures c.if-is_other_name.false c.is_other_name-2.ensures c.if-is_other_name-2.false c.is_other_name-3.ensures
