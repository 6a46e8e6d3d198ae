-- Worked examples of document 01: types with their text, and whether they are sound. One list, and one claim for all of it, by computation.
use Rattle.std.specs.Prelude.{Some, None}
use Prim.Native.String.{String}
use Rattle.std.proofs.Common.{◌≡◌, Bool, true, false, List, [], ◌∷◌, map, refl}
use Rattle.rast.specs.Bytes.{Bytes, ascii, same, each, among}
use Rattle.rast.specs.ToString.{Path-to_string, Primitive-to_string, size_text, Type-to_string}
use Rattle.rast.specs.Sound.{is_word_byte, excluded, is_word, sound_name, sound_size, sound_names, is_global, sound_path, is_intersection, is_named, is_empty, sound}
use Rattle.rast.specs.Tree.{Global, Crate, Self, MSels, U8, U16, U32, U64, U128, I8, I16, I32, I64, I128, USIZE, Bool·, Ty, Primitive, TIdentifier, TypeFromPath, TypeApp, Borrowed, BorrowedMut, ImplType, DynType, TupleType, FnType, IntersectionType, Array, TSynonym, TMetaData, nil, cons}

abbrev u8 : Ty Bytes
u8 = Primitive U8

abbrev bool : Ty Bytes
bool = Primitive Bool·

abbrev named : String → Ty Bytes
named x = TIdentifier (ascii x)

unfoldable pub examples : List (Ty Bytes × String × Bool)
examples =
    -- the words of kinds 0 to 11
    (Primitive U8, "u8", true) ∷ (Primitive U16, "u16", true) ∷ (Primitive U32, "u32", true) ∷ (Primitive U64, "u64", true)
    ∷ (Primitive U128, "u128", true) ∷ (Primitive I8, "i8", true) ∷ (Primitive I16, "i16", true) ∷ (Primitive I32, "i32", true)
    ∷ (Primitive I64, "i64", true) ∷ (Primitive I128, "i128", true) ∷ (Primitive USIZE, "usize", true) ∷ (Primitive Bool·, "bool", true)
    -- (a) to (e)
    ∷ (TypeApp (named "Gauge") (cons u8 nil), "Gauge<u8>", true)
    ∷ (TypeApp (named "Gauge") nil, "Gauge", false)
    ∷ (TypeFromPath Global, "", false)
    ∷ (FnType (cons u8 nil) (TupleType nil), "::std::ops::Fn(u8) -> ()", true)
    ∷ (IntersectionType (Borrowed u8) bool, "&u8 + bool", true)
    ∷ (Borrowed (IntersectionType u8 bool), "&u8 + bool", false)
    -- wrappers print their display, and are gone before a type is judged
    ∷ (TSynonym u8 bool, "u8", true)
    ∷ (Borrowed (TMetaData (IntersectionType u8 bool) true false), "&u8 + bool", false)
    -- prefixes
    ∷ (BorrowedMut (DynType (named "mute")), "&mut dyn mute", true)
    ∷ (Borrowed (ImplType (named "mut")), "&impl mut", false)
    -- arrays
    ∷ (Array u8 None, "[u8]", true)
    ∷ (Array (IntersectionType u8 bool) (Some (ascii "16")), "[u8 + bool; 16]", true)
    ∷ (Array u8 (Some (ascii "")), "[u8; ]", false)
    -- paths and lists
    ∷ (TypeApp (TypeFromPath (MSels Global (ascii "std" ∷ ascii "rc" ∷ ascii "Rc" ∷ []))) (cons (TupleType (cons u8 (cons bool nil))) nil), "::std::rc::Rc<(u8, bool)>", true)
    ∷ (FnType (cons (TypeFromPath Crate) (cons (TypeFromPath Self) nil)) (IntersectionType u8 bool), "::std::ops::Fn(crate, Self) -> u8 + bool", false)
    -- an intersection on the right side, and on the left
    ∷ (IntersectionType u8 (IntersectionType u8 bool), "u8 + u8 + bool", true)
    ∷ (IntersectionType (IntersectionType u8 u8) bool, "u8 + u8 + bool", false)
    ∷ []

pub texts-and-soundness : map {B = Bytes × Bool} (λ e. (Type-to_string e.0, sound e.0)) examples ≡ map (λ e. (ascii e.1, e.2)) examples
unfolding examples ascii same each among MSels Path-to_string Primitive-to_string size_text Type-to_string is_word_byte excluded is_word sound_name sound_size sound_names is_global sound_path is_intersection is_named is_empty sound
texts-and-soundness = refl
