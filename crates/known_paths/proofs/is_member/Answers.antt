use Rattle.encoding.specs.Tables.{fixed_names}
use Rattle.rast.specs.Bytes.{◌and◌, among, ascii, same}
use Rattle.known_paths.specs.Classes.{member_in}
use Rattle.std.proofs.Common.{refl, arith}
use Rattle.std.proofs.lemmas.Grind.{common_steps}
use Rattle.known_paths.proofs.is_member.Goals as goal

pub is_name-requires : goal.is_name-requires
unfolding ascii fixed_names
is_name-requires c = (c.requires.0, c.requires.1, omega arith, refl)

pub is_name-requires-in-ObjectClass : goal.is_name-requires-in-ObjectClass
unfolding ascii fixed_names
is_name-requires-in-ObjectClass c = (c.requires.0, c.requires.1, omega arith, refl)

pub is_name-requires-in-PtrClass : goal.is_name-requires-in-PtrClass
unfolding ascii fixed_names
is_name-requires-in-PtrClass c = (c.requires.0, c.requires.1, omega arith, refl)

pub is_other_name-requires : goal.is_other_name-requires
unfolding ascii fixed_names among same ◌and◌
is_other_name-requires c = (c.requires.0, c.requires.1, refl)

pub returns-in-Counted : goal.returns-in-Counted
unfolding member_in
returns-in-Counted c = grind (arith, common_steps)

pub returns-in-Placebo : goal.returns-in-Placebo
unfolding member_in fixed_names
returns-in-Placebo c = rw c.in-Placebo.is c.is_name.ensures

pub returns-in-ObjectClass : goal.returns-in-ObjectClass
unfolding member_in fixed_names
returns-in-ObjectClass c = rw c.in-ObjectClass.is c.is_name-in-ObjectClass.ensures

pub returns-in-PtrClass : goal.returns-in-PtrClass
unfolding member_in fixed_names
returns-in-PtrClass c = rw c.in-PtrClass.is c.is_name-in-PtrClass.ensures

pub returns-in-ArrayClass : goal.returns-in-ArrayClass
unfolding member_in
returns-in-ArrayClass c = rw c.in-ArrayClass.is c.is_array_name.ensures

pub returns-in-Collection : goal.returns-in-Collection
unfolding member_in
returns-in-Collection c = rw c.in-Collection.is c.is_set_name.ensures

pub returns-in-MapClass : goal.returns-in-MapClass
unfolding member_in ascii
returns-in-MapClass c = rw c.in-MapClass.is c.is_other_name.ensures
