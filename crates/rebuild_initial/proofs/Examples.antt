-- Worked examples of types at initialization: document 01's case (i), and what is easily got wrong. One list, and one claim for all of it, by computation.
use Rattle.encoding.specs.declared.Refusal.{Refusal}
use Rattle.std.specs.Prelude.{Ok, Err, Result}
use Rattle.std.proofs.Common.{◌≡◌, ℕ, List, [], ◌∷◌, ◌++◌, map, replicate, refl}
use Rattle.rast.specs.Bytes.{ascii, same, begins, ◌and◌}
use Rattle.rast.specs.Tree.{MSels, count}
use Rattle.rast.specs.DeclarationToString.{Expand}
use Rattle.encoding.specs.declared.Refusal.TheVariants.{EndsEarly, LeftOver, TooDeep, BufferTooShort}
use Rattle.encoding.specs.Refusals.{map_answer, unless}
use Rattle.encoding.specs.Reading.{read_word, read_below, read_names, whole}
use Rattle.encoding.specs.Tables.{overlong, good_pairs, check_tables, fixed_names, pair_bytes, name_bytes}
use Rattle.encoding.specs.Heads.{read_path, path_head, head_after, read_head}
use Rattle.encoding.specs.Types.{primitives, root_of, path_of, size_of, read_types, read_node, read_type}
use Rattle.tree_words.specs.Renamed.{renamed_path, renamed_size, renamed, renamed_all}
use Rattle.tree_words.specs.Encode.{token_word, primitive_word, flags_word, root_word, names, path_tokens, tokens, encode}
use Rattle.tree_words.specs.Numbered.{tree_of}
use Rattle.rebuild_spec.specs.Laying.{depth}
use Rattle.known_paths.specs.Matches.{on_path, applied, type_in, argument, unsized}
use Rattle.known_paths.specs.Paths.{same_path, dafny_runtime, in_runtime, ObjectPath, PtrPath, runtime_member}
use Rattle.known_paths.specs.Steps.{when, and_then, or_else}
use Rattle.shapes.specs.Shapes.{IsObject, IsPointer, IsObjectOrPointer, IsMultiArray}
use Rattle.shapes.specs.Initialization.{MaybeUninitType, ObjectType, PtrType, applied_to_uninit, or_this, new_underlying, TypeAtInitialization}
use Rattle.rebuild_type.specs.Calls.{laid_down}
use Rattle.rebuild_initial.specs.Calls.{type_initialized}

-- words, a buffer's size; the answer, and what the buffer holds, which held 5 before. The text has one name, `Array2`, of number 16.
abbrev Example : Type 0
Example = List ℕ × ℕ × (Result ℕ Refusal) × List ℕ

-- `Object` and `Ptr` of a type, `MaybeUninit` of a type and of `bool`, `Array2` of a type
abbrev object : List ℕ
object = 14 ∷ 1 ∷ 13 ∷ 0 ∷ 2 ∷ 10 ∷ 11 ∷ []

abbrev ptr : List ℕ
ptr = 14 ∷ 1 ∷ 13 ∷ 0 ∷ 2 ∷ 10 ∷ 12 ∷ []

abbrev uninit : List ℕ
uninit = 14 ∷ 1 ∷ 13 ∷ 0 ∷ 3 ∷ 1 ∷ 8 ∷ 9 ∷ []

abbrev uninit_bool : List ℕ
uninit_bool = uninit ++ (11 ∷ [])

abbrev array2 : List ℕ
array2 = 14 ∷ 1 ∷ 13 ∷ 0 ∷ 2 ∷ 10 ∷ 16 ∷ []

-- an `Object` of an array of borrows, 64 deep
abbrev deep : List ℕ
deep = object ++ (22 ∷ 0 ∷ (replicate 61 15 ++ (0 ∷ [])))

unfoldable pub examples : List Example
examples =
    -- (i): a wrapped `Object` becomes a `Ptr`, and the wrapper is gone; metadata is a wrapper too
    (23 ∷ 0 ∷ (object ++ (22 ∷ 0 ∷ 0 ∷ [])), 20, Ok 18, ptr ++ (22 ∷ 0 ∷ (uninit ++ (0 ∷ 5 ∷ 5 ∷ []))))
    ∷ (24 ∷ 0 ∷ (object ++ (22 ∷ 0 ∷ 0 ∷ [])), 18, Ok 18, ptr ++ (22 ∷ 0 ∷ (uninit ++ (0 ∷ []))))
    ∷ (object ++ (22 ∷ 0 ∷ 0 ∷ []), 18, Ok 18, object ++ (22 ∷ 0 ∷ (uninit ++ (0 ∷ []))))
    ∷ (ptr ++ (22 ∷ 0 ∷ 0 ∷ []), 18, Ok 18, ptr ++ (22 ∷ 0 ∷ (uninit ++ (0 ∷ []))))
    -- an array of `MaybeUninit` changes once more, wrapped elements keep their wrapper; an array with a size or in a wrapper stays
    ∷ (object ++ (22 ∷ 0 ∷ uninit_bool), 26, Ok 26, object ++ (22 ∷ 0 ∷ (uninit ++ uninit_bool)))
    ∷ (object ++ (22 ∷ 17 ∷ uninit_bool), 18, Ok 18, object ++ (22 ∷ 17 ∷ uninit_bool))
    ∷ (object ++ (24 ∷ 0 ∷ 22 ∷ 0 ∷ uninit_bool), 20, Ok 20, object ++ (24 ∷ 0 ∷ 22 ∷ 0 ∷ uninit_bool))
    ∷ (object ++ (22 ∷ 0 ∷ 24 ∷ 0 ∷ uninit_bool), 28, Ok 28, object ++ (22 ∷ 0 ∷ (uninit ++ (24 ∷ 0 ∷ uninit_bool))))
    -- a `MultiArray` keeps its base and loses its wrapper
    ∷ (object ++ (24 ∷ 0 ∷ (array2 ++ uninit_bool)), 31, Ok 31, object ++ (array2 ++ (uninit ++ uninit_bool)))
    ∷ (ptr ++ (array2 ++ (0 ∷ [])), 24, Ok 23, ptr ++ (array2 ++ (uninit ++ (0 ∷ 5 ∷ []))))
    -- a type that stays is written all the same
    ∷ (0 ∷ [], 2, Ok 1, 0 ∷ 5 ∷ [])
    ∷ (15 ∷ 0 ∷ [], 1, Err BufferTooShort, 0 ∷ [])
    -- too many words, and only then too deep: 65 after 64
    ∷ (ptr ++ (22 ∷ 0 ∷ 0 ∷ []), 17, Err BufferTooShort, replicate 17 0)
    ∷ (deep, 79, Err TooDeep, replicate 79 0)
    ∷ (deep, 78, Err BufferTooShort, replicate 78 0)
    -- refusals of the encoding leave the buffer
    ∷ (22 ∷ 0 ∷ [], 1, Err EndsEarly, 5 ∷ [])
    ∷ (0 ∷ 0 ∷ [], 1, Err LeftOver, 5 ∷ [])
    ∷ []

abbrev asked : Example → Result ℕ Refusal × List ℕ
asked e = laid_down (replicate e.1 5) (type_initialized e.0 (0 ∷ 6 ∷ []) (ascii "Array2"))

abbrev told : Example → Result ℕ Refusal × List ℕ
told e = (e.2, e.3)

pub all-examples : map asked examples ≡ map told examples
unfolding examples ascii same begins ◌and◌ MSels Expand map_answer unless read_word read_below read_names whole overlong good_pairs check_tables fixed_names pair_bytes name_bytes read_path path_head head_after read_head primitives root_of path_of size_of read_types read_node read_type renamed_path renamed_size renamed renamed_all token_word primitive_word flags_word root_word names path_tokens count tokens encode tree_of depth on_path applied type_in argument unsized same_path dafny_runtime in_runtime ObjectPath PtrPath runtime_member when and_then or_else IsObject IsPointer IsObjectOrPointer IsMultiArray MaybeUninitType ObjectType PtrType applied_to_uninit or_this new_underlying TypeAtInitialization laid_down type_initialized
all-examples = refl
