-- Document 01's case (f) and the parts that are easily confused, on encodings. One list, and one claim for all of it, by computation.
use Rattle.std.specs.Prelude.{Ok, Err}
use Prim.Native.Nat.{ℕ}
use mathlib.Core.Path.{◌≡◌, refl}
use mathlib.Core.List.{List, [], ◌∷◌, ◌++◌, map}
use Rattle.rast.specs.Bytes.{Bytes, ascii, same, begins, ◌and◌}
use Rattle.rast.specs.Tree.{MSels, count}
use Rattle.rast.specs.DeclarationToString.{Expand}
use Rattle.encoding.specs.declared.Refusal.TheVariants.{NoSuchPart}
use Rattle.encoding.specs.Refusals.{Answer, unless}
use Rattle.encoding.specs.Reading.{read_word, read_below, read_names, whole}
use Rattle.encoding.specs.Tables.{overlong, good_pairs, check_tables, fixed_names, pair_bytes, name_bytes}
use Rattle.encoding.specs.Heads.{read_path, path_head, head_after, read_head}
use Rattle.encoding.specs.Types.{primitives, root_of, path_of, size_of, read_types, read_node, read_type, type_of}
use Rattle.tree_words.specs.Encode.{names, path_tokens, tokens, words}
use Rattle.known_paths.specs.Matches.{on_path, applied, type_in, argument, is_dyn, some_is}
use Rattle.known_paths.specs.Paths.{same_path, std, in_std, dafny_runtime, in_runtime, RcPath, ArcPath, BoxPath, MaybeUninitPath, MaybePlaceboPath, ObjectPath, PtrPath, runtime_member}
use Rattle.known_paths.specs.Steps.{when, and_then, or_else, type_at_index, argument_at, argument_of, dyn_at, dyn_of, element_at, element_of}
use Rattle.shapes.specs.Parts.{removed_at, expanded_at, owned_at, is_map, MaybeUninitTypeUnderlying, uninit_element, RemoveSynonyms, ExpandAt, ToOwned, MultiArrayUnderlying, BoxUnderlying, ObjectOrPointerUnderlying, RcUnderlying, BoxDynUnderlying, GetBuiltinCollectionElement, ExtractMaybePlacebo, ExtractMaybeUninitArrayElement, expanded}
use Rattle.shapes.specs.Shapes.{IsBox, IsRc, IsBoxDyn, IsMaybeUninit, IsMultiArray, IsObject, IsPointer, IsObjectOrPointer, IsBuiltinCollection}
use Rattle.parts.specs.declared.Wanted.{Wanted}
use Rattle.parts.specs.declared.Wanted.TheVariants.{Removed, Expanded, Owned, OfMultiArray, OfBox, OfPointer, OfRc, OfBoxDyn, OfCollection, OfPlacebo, OfUninitArray}
use Rattle.parts.specs.Answers.{span_of, span_in, part_of}
use Rattle.parts.specs.declared.Span.{Span}
use Rattle.parts.specs.Asked.{part_for}

-- names 16 to 18: `Array2`, `Set`, `Map`
abbrev pairs : List ℕ
pairs = 0 ∷ 6 ∷ 6 ∷ 3 ∷ 9 ∷ 3 ∷ []

abbrev text : Bytes
text = ascii "Array2SetMap"

-- applications to one argument, which follows: `Object`, `Array2`, `Rc`, `Box`, `MaybePlacebo`; and `MaybeUninit<bool>`
abbrev object : List ℕ
object = 14 ∷ 1 ∷ 13 ∷ 0 ∷ 2 ∷ 10 ∷ 11 ∷ []

abbrev array2 : List ℕ
array2 = 14 ∷ 1 ∷ 13 ∷ 0 ∷ 2 ∷ 10 ∷ 16 ∷ []

abbrev rc : List ℕ
rc = 14 ∷ 1 ∷ 13 ∷ 0 ∷ 3 ∷ 1 ∷ 2 ∷ 3 ∷ []

abbrev box : List ℕ
box = 14 ∷ 1 ∷ 13 ∷ 0 ∷ 3 ∷ 1 ∷ 6 ∷ 7 ∷ []

abbrev placebo : List ℕ
placebo = 14 ∷ 1 ∷ 13 ∷ 0 ∷ 2 ∷ 10 ∷ 13 ∷ []

abbrev uninit : List ℕ
uninit = 14 ∷ 1 ∷ 13 ∷ 0 ∷ 3 ∷ 1 ∷ 8 ∷ 9 ∷ 11 ∷ []

abbrev part : ℕ → ℕ → Answer Span
part s n = Ok (record { start = s; length = n })

abbrev none : Answer Span
none = Err NoSuchPart

unfoldable pub examples : List (Wanted × List ℕ × Answer Span)
examples =
    -- (f): `Expand` follows the base, `RemoveSynonyms` the display
    (Expanded, 23 ∷ 0 ∷ 11 ∷ [], part 2 1) ∷ (Removed, 23 ∷ 0 ∷ 11 ∷ [], part 1 1)
    ∷ (Expanded, 24 ∷ 0 ∷ 23 ∷ 15 ∷ 0 ∷ 15 ∷ 11 ∷ [], part 5 2) ∷ (Removed, 24 ∷ 0 ∷ 23 ∷ 15 ∷ 0 ∷ 15 ∷ 11 ∷ [], part 3 2)
    ∷ (Expanded, 15 ∷ 0 ∷ [], part 0 2) ∷ (Removed, 15 ∷ 0 ∷ [], part 0 2)
    -- one borrow
    ∷ (Owned, 15 ∷ 16 ∷ 0 ∷ [], part 1 2) ∷ (Owned, 16 ∷ 0 ∷ [], part 1 1) ∷ (Owned, 24 ∷ 0 ∷ 15 ∷ 0 ∷ [], part 0 4)
    -- the argument, or a wrapper that is not opened
    ∷ (OfRc, rc ++ (15 ∷ 0 ∷ []), part 8 2) ∷ (OfRc, 24 ∷ 0 ∷ (rc ++ (0 ∷ [])), none) ∷ (OfBox, box ++ (0 ∷ []), part 8 1)
    ∷ (OfBoxDyn, box ++ (18 ∷ 15 ∷ 0 ∷ []), part 9 2) ∷ (OfBoxDyn, box ++ (0 ∷ []), none)
    ∷ (OfPlacebo, placebo ++ (0 ∷ []), part 7 1) ∷ (OfPlacebo, rc ++ (0 ∷ []), none)
    -- or one that is
    ∷ (OfPointer, 23 ∷ 0 ∷ (object ++ (0 ∷ [])), part 9 1) ∷ (OfPointer, 23 ∷ 0 ∷ 0 ∷ [], none)
    ∷ (OfMultiArray, 24 ∷ 0 ∷ (array2 ++ (0 ∷ [])), part 9 1) ∷ (OfMultiArray, object ++ (0 ∷ []), none)
    -- of a Map the second argument
    ∷ (OfCollection, 14 ∷ 1 ∷ 13 ∷ 0 ∷ 2 ∷ 10 ∷ 17 ∷ 0 ∷ [], part 7 1) ∷ (OfCollection, 14 ∷ 2 ∷ 13 ∷ 0 ∷ 2 ∷ 10 ∷ 18 ∷ 15 ∷ 0 ∷ 11 ∷ [], part 9 1)
    ∷ (OfCollection, 14 ∷ 2 ∷ 13 ∷ 0 ∷ 2 ∷ 10 ∷ 17 ∷ 0 ∷ 0 ∷ [], none)
    -- arrays of `MaybeUninit`: without size, with one, wrapped, of a class, and with the element wrapped
    ∷ (OfUninitArray, object ++ (22 ∷ 0 ∷ uninit), part 17 1) ∷ (OfUninitArray, object ++ (22 ∷ 17 ∷ uninit), part 17 1)
    ∷ (OfUninitArray, object ++ (24 ∷ 0 ∷ 22 ∷ 0 ∷ uninit), none) ∷ (OfUninitArray, object ++ (24 ∷ 0 ∷ (array2 ++ uninit)), part 24 1)
    ∷ (OfUninitArray, object ++ (22 ∷ 0 ∷ 24 ∷ 0 ∷ uninit), none)
    ∷ []

pub parts-as-said : map {B = Answer Span} (λ e. part_of (part_for e.0) e.1 pairs text) examples ≡ map (λ e. e.2) examples
unfolding examples part_of span_in span_of type_of unless check_tables overlong good_pairs whole read_type read_head head_after path_head read_path read_names read_below read_word read_node read_types primitives root_of path_of size_of name_bytes pair_bytes fixed_names ascii MSels same begins ◌and◌ Expand names path_tokens count tokens words same_path std in_std dafny_runtime in_runtime RcPath ArcPath BoxPath MaybeUninitPath MaybePlaceboPath ObjectPath PtrPath runtime_member on_path applied type_in argument is_dyn some_is IsBox IsRc IsBoxDyn IsMaybeUninit IsMultiArray IsObject IsPointer IsObjectOrPointer IsBuiltinCollection when and_then or_else type_at_index argument_at argument_of dyn_at dyn_of element_at element_of removed_at expanded_at expanded owned_at is_map MaybeUninitTypeUnderlying uninit_element RemoveSynonyms ExpandAt ToOwned MultiArrayUnderlying BoxUnderlying ObjectOrPointerUnderlying RcUnderlying BoxDynUnderlying GetBuiltinCollectionElement ExtractMaybePlacebo ExtractMaybeUninitArrayElement
parts-as-said = refl
