-- Document 01's cases (a), (f) and (i) and the shapes that are easily confused, on encodings. Two lists, each with one claim for all of it, by computation.
use Rattle.std.specs.Prelude.{Ok}
use Prim.Native.Nat.{ℕ}
use mathlib.Core.Bool.{Bool, true, false}
use mathlib.Core.Path.{◌≡◌, refl}
use mathlib.Core.List.{List, [], ◌∷◌, ◌++◌, map}
use Rattle.rast.specs.Bytes.{Bytes, ascii, same, begins, ◌and◌}
use Rattle.rast.specs.Tree.{Ty, MSels, count}
use Rattle.rast.specs.DeclarationToString.{Expand}
use Rattle.encoding.specs.Refusals.{Answer, map_answer, unless}
use Rattle.encoding.specs.Reading.{read_word, read_below, read_names, whole}
use Rattle.encoding.specs.Tables.{overlong, good_pairs, check_tables, fixed_names, pair_bytes, name_bytes}
use Rattle.encoding.specs.Heads.{read_path, path_head, head_after, read_head}
use Rattle.encoding.specs.Types.{primitives, root_of, path_of, size_of, read_types, read_node, read_type, type_of}
use Rattle.tree_words.specs.Renamed.{renamed_path, renamed_size, renamed}
use Rattle.tree_words.specs.Numbered.{tree_of}
use Rattle.tree_words.specs.Encode.{token_word, primitive_word, flags_word, root_word, names, path_tokens, tokens, encode}
use Rattle.known_paths.specs.Matches.{on_path, applied, type_in, argument, unsized, is_dyn, some_is}
use Rattle.known_paths.specs.Paths.{same_path, std, in_std, dafny_runtime, in_runtime, RcPath, ArcPath, BoxPath, MaybeUninitPath, ObjectPath, PtrPath, runtime_member}
use Rattle.known_paths.specs.Steps.{when, and_then, or_else}
use Rattle.shapes.specs.Initialization.{own_number, MaybeUninitType, ObjectType, PtrType, applied_to_uninit, or_this, new_underlying, TypeAtInitialization}
use Rattle.shapes.specs.Shapes.{uninit_cases, is_fixed_number, is_number, is_bool, EndsWithNameThatCanAcceptGenerics, IsAutoSize, CanReadWithoutClone, IsRcOrBorrowedRc, IsMultiArray, IsMaybeUninit, IsUninitArray, IsBox, NeedsAsRefForBorrow, IsObject, IsPointer, IsObjectOrPointer, IsBuiltinCollection, IsRc, IsBoxDyn}

-- names 16 to 20: `Array2`, `Set`, `Map`, `Array`, `A`
abbrev pairs : List ℕ
pairs = 0 ∷ 6 ∷ 6 ∷ 3 ∷ 9 ∷ 3 ∷ 12 ∷ 5 ∷ 17 ∷ 1 ∷ []

abbrev text : Bytes
text = ascii "Array2SetMapArrayA"

-- applications to one argument, which follows: `Object`, `Ptr`, `Array2`, `Rc`, `Box`; and `MaybeUninit<bool>`
abbrev object : List ℕ
object = 14 ∷ 1 ∷ 13 ∷ 0 ∷ 2 ∷ 10 ∷ 11 ∷ []

abbrev pointer : List ℕ
pointer = 14 ∷ 1 ∷ 13 ∷ 0 ∷ 2 ∷ 10 ∷ 12 ∷ []

abbrev array2 : List ℕ
array2 = 14 ∷ 1 ∷ 13 ∷ 0 ∷ 2 ∷ 10 ∷ 16 ∷ []

abbrev rc : List ℕ
rc = 14 ∷ 1 ∷ 13 ∷ 0 ∷ 3 ∷ 1 ∷ 2 ∷ 3 ∷ []

abbrev box : List ℕ
box = 14 ∷ 1 ∷ 13 ∷ 0 ∷ 3 ∷ 1 ∷ 6 ∷ 7 ∷ []

abbrev uninit : List ℕ
uninit = 14 ∷ 1 ∷ 13 ∷ 0 ∷ 3 ∷ 1 ∷ 8 ∷ 9 ∷ 11 ∷ []

unfoldable pub shapes : List ((Ty Bytes → Bool) × List ℕ × Bool)
shapes =
    -- (a), and without arguments: an application ends with none of its names
    (EndsWithNameThatCanAcceptGenerics, 14 ∷ 1 ∷ 12 ∷ 20 ∷ 0 ∷ [], false) ∷ (EndsWithNameThatCanAcceptGenerics, 14 ∷ 0 ∷ 12 ∷ 20 ∷ [], false)
    -- (f): the base decides, and for the name the display
    ∷ (IsAutoSize, 23 ∷ 0 ∷ 11 ∷ [], false) ∷ (IsAutoSize, 23 ∷ 11 ∷ 0 ∷ [], true)
    ∷ (EndsWithNameThatCanAcceptGenerics, 23 ∷ 0 ∷ 11 ∷ [], true) ∷ (EndsWithNameThatCanAcceptGenerics, 23 ∷ 11 ∷ 0 ∷ [], false)
    ∷ (CanReadWithoutClone, 23 ∷ 0 ∷ 12 ∷ 20 ∷ [], false) ∷ (IsRcOrBorrowedRc, 23 ∷ 0 ∷ (rc ++ (0 ∷ [])), true)
    -- `usize` and `bool`
    ∷ (EndsWithNameThatCanAcceptGenerics, 10 ∷ [], false) ∷ (IsAutoSize, 10 ∷ [], true) ∷ (IsAutoSize, 11 ∷ [], false) ∷ (CanReadWithoutClone, 11 ∷ [], true)
    -- the right side of an intersection
    ∷ (EndsWithNameThatCanAcceptGenerics, 21 ∷ 11 ∷ 12 ∷ 20 ∷ [], true) ∷ (EndsWithNameThatCanAcceptGenerics, 21 ∷ 12 ∷ 20 ∷ 11 ∷ [], false)
    -- nothing is opened: not a wrapper, and not one around the base name
    ∷ (IsRc, rc ++ (0 ∷ []), true) ∷ (IsRc, 24 ∷ 0 ∷ (rc ++ (0 ∷ [])), false)
    ∷ (IsRc, 14 ∷ 1 ∷ 24 ∷ 0 ∷ 13 ∷ 0 ∷ 3 ∷ 1 ∷ 2 ∷ 3 ∷ 0 ∷ [], false)
    ∷ (IsObject, 24 ∷ 0 ∷ (object ++ (0 ∷ [])), false) ∷ (IsObjectOrPointer, 24 ∷ 0 ∷ (object ++ (0 ∷ [])), true)
    ∷ (IsPointer, pointer ++ (0 ∷ []), true) ∷ (CanReadWithoutClone, pointer ++ (0 ∷ []), true) ∷ (CanReadWithoutClone, object ++ (0 ∷ []), false)
    -- the root counts
    ∷ (IsRc, 14 ∷ 1 ∷ 13 ∷ 1 ∷ 3 ∷ 1 ∷ 2 ∷ 3 ∷ 0 ∷ [], false)
    -- of metadata the first flag alone suffices
    ∷ (CanReadWithoutClone, 24 ∷ 1 ∷ 12 ∷ 20 ∷ [], true) ∷ (CanReadWithoutClone, 24 ∷ 2 ∷ 12 ∷ 20 ∷ [], false) ∷ (IsRcOrBorrowedRc, 24 ∷ 0 ∷ (rc ++ (0 ∷ [])), false)
    -- any number of shared borrows, and one
    ∷ (IsRcOrBorrowedRc, 15 ∷ 15 ∷ (rc ++ (0 ∷ [])), true) ∷ (IsRcOrBorrowedRc, 16 ∷ (rc ++ (0 ∷ [])), false)
    ∷ (NeedsAsRefForBorrow, 15 ∷ (box ++ (0 ∷ [])), true) ∷ (NeedsAsRefForBorrow, 15 ∷ 15 ∷ (rc ++ (0 ∷ [])), false)
    -- boxes
    ∷ (IsBox, box ++ (0 ∷ []), true) ∷ (IsBoxDyn, box ++ (0 ∷ []), false) ∷ (IsBoxDyn, box ++ (18 ∷ 0 ∷ []), true)
    -- names that begin with `Array`, and one argument
    ∷ (IsMultiArray, 14 ∷ 1 ∷ 13 ∷ 0 ∷ 2 ∷ 10 ∷ 19 ∷ 0 ∷ [], true) ∷ (IsMultiArray, 14 ∷ 2 ∷ 13 ∷ 0 ∷ 2 ∷ 10 ∷ 16 ∷ 0 ∷ 0 ∷ [], false)
    ∷ (IsMultiArray, 14 ∷ 1 ∷ 13 ∷ 0 ∷ 3 ∷ 10 ∷ 10 ∷ 16 ∷ 0 ∷ [], false)
    -- collections
    ∷ (IsBuiltinCollection, 14 ∷ 1 ∷ 13 ∷ 0 ∷ 2 ∷ 10 ∷ 17 ∷ 0 ∷ [], true) ∷ (IsBuiltinCollection, 14 ∷ 1 ∷ 13 ∷ 0 ∷ 2 ∷ 10 ∷ 18 ∷ 0 ∷ [], false)
    ∷ (IsBuiltinCollection, 14 ∷ 2 ∷ 13 ∷ 0 ∷ 2 ∷ 10 ∷ 18 ∷ 0 ∷ 11 ∷ [], true)
    -- arrays of `MaybeUninit`: without size, with one, wrapped, of a class, and with the element wrapped
    ∷ (IsMaybeUninit, uninit, true) ∷ (IsUninitArray, object ++ (22 ∷ 0 ∷ uninit), true) ∷ (IsUninitArray, object ++ (22 ∷ 21 ∷ uninit), false)
    ∷ (IsUninitArray, object ++ (24 ∷ 0 ∷ 22 ∷ 0 ∷ uninit), true) ∷ (IsUninitArray, object ++ (24 ∷ 0 ∷ (array2 ++ uninit)), true)
    ∷ (IsUninitArray, object ++ (22 ∷ 0 ∷ 24 ∷ 0 ∷ uninit), false)
    ∷ []

pub shapes-as-said : map {B = Answer Bool} (λ e. map_answer e.0 (type_of e.1 pairs text)) shapes ≡ map (λ e. Ok e.2) shapes
unfolding shapes type_of map_answer unless check_tables overlong good_pairs whole read_type read_head head_after path_head read_path read_names read_below read_word read_node read_types primitives root_of path_of size_of name_bytes pair_bytes fixed_names ascii MSels same begins ◌and◌ Expand count same_path std in_std dafny_runtime in_runtime RcPath ArcPath BoxPath MaybeUninitPath ObjectPath PtrPath runtime_member on_path applied type_in argument unsized is_dyn some_is uninit_cases is_fixed_number is_number is_bool EndsWithNameThatCanAcceptGenerics IsAutoSize CanReadWithoutClone IsRcOrBorrowedRc IsMultiArray IsMaybeUninit IsUninitArray IsBox NeedsAsRefForBorrow IsObject IsPointer IsObjectOrPointer IsBuiltinCollection IsRc IsBoxDyn
shapes-as-said = refl

-- `TypeAtInitialization`, encoded
unfoldable pub initializations : List (List ℕ × List ℕ)
initializations =
    -- (i): a wrapped `Object` becomes a `Ptr`
    (23 ∷ 0 ∷ (object ++ (22 ∷ 0 ∷ 0 ∷ [])), pointer ++ (22 ∷ 0 ∷ 14 ∷ 1 ∷ 13 ∷ 0 ∷ 3 ∷ 1 ∷ 8 ∷ 9 ∷ 0 ∷ []))
    ∷ (object ++ (22 ∷ 0 ∷ uninit), object ++ (22 ∷ 0 ∷ 14 ∷ 1 ∷ 13 ∷ 0 ∷ 3 ∷ 1 ∷ 8 ∷ 9 ∷ uninit))
    -- a size, or a wrapper around the array, and nothing changes
    ∷ (object ++ (22 ∷ 21 ∷ uninit), object ++ (22 ∷ 21 ∷ uninit))
    ∷ (object ++ (24 ∷ 0 ∷ 22 ∷ 0 ∷ uninit), object ++ (24 ∷ 0 ∷ 22 ∷ 0 ∷ uninit))
    -- a wrapper around a class is gone
    ∷ (object ++ (24 ∷ 0 ∷ (array2 ++ (11 ∷ []))), object ++ (array2 ++ uninit))
    ∷ []

pub initialized-as-said : map {B = Answer (List ℕ)} (λ e. map_answer (λ t. encode (TypeAtInitialization own_number (renamed (name_bytes pairs text)) t)) (tree_of e.0 pairs text)) initializations
    ≡ map (λ e. Ok e.1) initializations
unfolding initializations tree_of map_answer unless check_tables overlong good_pairs whole read_type read_head head_after path_head read_path read_names read_below read_word read_node read_types primitives root_of path_of size_of name_bytes pair_bytes fixed_names ascii MSels same begins ◌and◌ Expand count same_path dafny_runtime in_runtime ObjectPath PtrPath runtime_member on_path applied type_in argument unsized IsMultiArray IsObject IsPointer IsObjectOrPointer renamed renamed_path renamed_size when and_then or_else MaybeUninitType ObjectType PtrType applied_to_uninit or_this new_underlying TypeAtInitialization encode tokens token_word primitive_word flags_word root_word names path_tokens
initialized-as-said = refl
