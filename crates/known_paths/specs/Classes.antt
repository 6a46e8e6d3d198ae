-- The paths whose applications have names of their own, and the first argument of such an application.
use Rattle.std.specs.Prelude.{Option, ℕ, Bool, false, nat_eq}
use Rattle.rast.specs.Bytes.{Bytes, ascii, same, begins, ◌and◌, ◌or◌}
use Rattle.rast.specs.Tree.{Path, Ty, count}
use Rattle.tree_words.specs.Places.{Place}
use Rattle.known_paths.specs.declared.Class.{Class}
use Rattle.known_paths.specs.declared.Class.TheVariants.{Counted, Boxed, Uninit, Placebo, ObjectClass, PtrClass, ArrayClass, Collection, MapClass}
use Rattle.known_paths.specs.Matches.{applied}
use Rattle.known_paths.specs.Paths.{same_path, runtime_member, RcPath, ArcPath, BoxPath, MaybeUninitPath, MaybePlaceboPath, ObjectPath, PtrPath}
use Rattle.known_paths.specs.Steps.{when, argument_of}

unfoldable pub is_set : Bytes → Bool
is_set tpe = same tpe (ascii "Set") or same tpe (ascii "Sequence") or same tpe (ascii "Multiset")

unfoldable pub in_class : Class → Path Bytes → Bool
in_class Counted p = same_path p RcPath or same_path p ArcPath
in_class Boxed p = same_path p BoxPath
in_class Uninit p = same_path p MaybeUninitPath
in_class Placebo p = same_path p MaybePlaceboPath
in_class ObjectClass p = same_path p ObjectPath
in_class PtrClass p = same_path p PtrPath
in_class ArrayClass p = runtime_member (begins (ascii "Array")) p
in_class Collection p = runtime_member is_set p
in_class MapClass p = runtime_member (λ tpe. same tpe (ascii "Map")) p

-- the names of the classes that are members of `dafny_runtime`
unfoldable pub member_in : Class → Bytes → Bool
member_in Counted x = false
member_in Boxed x = false
member_in Uninit x = false
member_in Placebo x = same x (ascii "MaybePlacebo")
member_in ObjectClass x = same x (ascii "Object")
member_in PtrClass x = same x (ascii "Ptr")
member_in ArrayClass x = begins (ascii "Array") x
member_in Collection x = is_set x
member_in MapClass x = same x (ascii "Map")

-- how many arguments are asked for
unfoldable pub arity : Class → ℕ
arity Counted = 1
arity Boxed = 1
arity Uninit = 1
arity Placebo = 1
arity ObjectClass = 1
arity PtrClass = 1
arity ArrayClass = 1
arity Collection = 1
arity MapClass = 2

-- how many names the paths of a class have
unfoldable pub name_count_of : Class → ℕ
name_count_of Counted = 3
name_count_of Boxed = 3
name_count_of Uninit = 3
name_count_of Placebo = 2
name_count_of ObjectClass = 2
name_count_of PtrClass = 2
name_count_of ArrayClass = 2
name_count_of Collection = 2
name_count_of MapClass = 2

-- an application of a path of the class to so many arguments
unfoldable pub is_of : Class → Ty Bytes → Bool
is_of class t = applied (λ p ts. in_class class p and nat_eq (count ts) (arity class)) t

-- its first argument
unfoldable pub first : Class → Place Bytes → Option (Place Bytes)
first class p = when (is_of class p.tpe) (argument_of 0 p)
