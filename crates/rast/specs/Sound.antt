-- Document 01's "sound": no two such types that differ, wrappers aside, have the same text. It is judged after every wrapper has given way to its display.
use Rattle.std.specs.Prelude.{Option, Some, None, ℕ, Bool, true, false, not, List, [], ◌∷◌, nat_eq, nat_le}
use Rattle.rast.specs.Bytes.{Bytes, ascii, ◌and◌, ◌or◌, each, among}
use Rattle.rast.specs.Tree.{Path, Global, Crate, Self, PMemberSelect, Ty, Tys, Primitive, TIdentifier, TypeFromPath, TypeApp, Borrowed, BorrowedMut, ImplType, DynType, TupleType, FnType, IntersectionType, Array, TSynonym, TMetaData, nil, cons}

-- every wrapper (synonym or metadata) replaced by its display, at all depths
unfoldable mutual
  pub bare : {N : Type 0} → Ty N → Ty N
  bare (Primitive p) = Primitive p
  bare (TIdentifier x) = TIdentifier x
  bare (TypeFromPath p) = TypeFromPath p
  bare (TypeApp b ts) = TypeApp (bare b) (bares ts)
  bare (Borrowed t) = Borrowed (bare t)
  bare (BorrowedMut t) = BorrowedMut (bare t)
  bare (ImplType t) = ImplType (bare t)
  bare (DynType t) = DynType (bare t)
  bare (TupleType ts) = TupleType (bares ts)
  bare (FnType ts t) = FnType (bares ts) (bare t)
  bare (IntersectionType l r) = IntersectionType (bare l) (bare r)
  bare (Array t s) = Array (bare t) s
  bare (TSynonym d b) = bare d
  bare (TMetaData d c o) = bare d

  pub bares : {N : Type 0} → Tys N → Tys N
  bares nil = nil
  bares (cons t ts) = cons (bare t) (bares ts)

-- ---- names and sizes

unfoldable pub within : ℕ → ℕ → ℕ → Bool
unfolding ◌and◌
within a z x = nat_le a x and nat_le x z

-- an ASCII letter: A to Z, a to z
unfoldable pub is_letter : ℕ → Bool
unfolding within
is_letter x = within 65 90 x or within 97 122 x

-- a letter or an underscore
unfoldable pub is_word_start : ℕ → Bool
unfolding is_letter
-- 95 is `_`
is_word_start x = is_letter x or nat_eq x 95

-- a letter, an underscore or a digit
unfoldable pub is_word_byte : ℕ → Bool
unfolding is_word_start within
is_word_byte x = is_word_start x or within 48 57 x

-- the words that are no names
unfoldable pub excluded : List Bytes
excluded =
    ascii "u8" ∷ ascii "u16" ∷ ascii "u32" ∷ ascii "u64" ∷ ascii "u128"
    ∷ ascii "i8" ∷ ascii "i16" ∷ ascii "i32" ∷ ascii "i64" ∷ ascii "i128" ∷ ascii "usize" ∷ ascii "bool"
    ∷ ascii "mut" ∷ ascii "impl" ∷ ascii "dyn" ∷ ascii "crate" ∷ ascii "Self" ∷ []

-- "an ASCII letter or underscore followed by letters, digits, underscores"
unfoldable pub is_word : Bytes → Bool
is_word [] = false
is_word (x ∷ xs) = is_word_start x and each is_word_byte xs

-- "each name in a type or path, array sizes aside, is .. and is none of the words .."
unfoldable pub sound_name : Bytes → Bool
sound_name x = is_word x and not (among x excluded)

-- an array size: one or more letters, digits, underscores
unfoldable pub sound_size : Option Bytes → Bool
sound_size None = true
sound_size (Some []) = false
sound_size (Some (x ∷ xs)) = is_word_byte x and each is_word_byte xs

-- ---- paths

-- each of a path's names
unfoldable pub sound_names : Path Bytes → Bool
sound_names Global = true
sound_names Crate = true
sound_names Self = true
sound_names (PMemberSelect p x) = sound_names p and sound_name x

-- `Global` with no name
unfoldable pub is_global : {N : Type 0} → Path N → Bool
is_global Global = true
is_global Crate = false
is_global Self = false
is_global (PMemberSelect p x) = false

-- "`Global` has at least one name"
unfoldable pub sound_path : Path Bytes → Bool
sound_path p = not (is_global p) and sound_names p

-- ---- types

-- an intersection, wrappers aside
unfoldable pub is_intersection : {N : Type 0} → Ty N → Bool
is_intersection (Primitive p) = false
is_intersection (TIdentifier x) = false
is_intersection (TypeFromPath p) = false
is_intersection (TypeApp b ts) = false
is_intersection (Borrowed t) = false
is_intersection (BorrowedMut t) = false
is_intersection (ImplType t) = false
is_intersection (DynType t) = false
is_intersection (TupleType ts) = false
is_intersection (FnType ts t) = false
is_intersection (IntersectionType l r) = true
is_intersection (Array t s) = false
is_intersection (TSynonym d b) = is_intersection d
is_intersection (TMetaData d c o) = is_intersection d

-- of kind 12 or 13, wrappers aside
unfoldable pub is_named : {N : Type 0} → Ty N → Bool
is_named (Primitive p) = false
is_named (TIdentifier x) = true
is_named (TypeFromPath p) = true
is_named (TypeApp b ts) = false
is_named (Borrowed t) = false
is_named (BorrowedMut t) = false
is_named (ImplType t) = false
is_named (DynType t) = false
is_named (TupleType ts) = false
is_named (FnType ts t) = false
is_named (IntersectionType l r) = false
is_named (Array t s) = false
is_named (TSynonym d b) = is_named d
is_named (TMetaData d c o) = is_named d

unfoldable pub is_empty : {N : Type 0} → Tys N → Bool
is_empty nil = true
is_empty (cons t ts) = false

-- "The base of `TypeApp` is of kind 12 or 13, with at least one argument. No intersection stands directly under kinds 15 to 18, as a return type, or as a left side."
unfoldable mutual
  pub sound : Ty Bytes → Bool
  sound (Primitive p) = true
  sound (TIdentifier x) = sound_name x
  sound (TypeFromPath p) = sound_path p
  sound (TypeApp b ts) = is_named b and not (is_empty ts) and sound b and sounds ts
  sound (Borrowed t) = not (is_intersection t) and sound t
  sound (BorrowedMut t) = not (is_intersection t) and sound t
  sound (ImplType t) = not (is_intersection t) and sound t
  sound (DynType t) = not (is_intersection t) and sound t
  sound (TupleType ts) = sounds ts
  sound (FnType ts t) = sounds ts and not (is_intersection t) and sound t
  sound (IntersectionType l r) = not (is_intersection l) and sound l and sound r
  sound (Array t s) = sound t and sound_size s
  sound (TSynonym d b) = sound d
  sound (TMetaData d c o) = sound d

  pub sounds : Tys Bytes → Bool
  sounds nil = true
  sounds (cons t ts) = sound t and sounds ts
