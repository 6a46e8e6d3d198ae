-- Visit lists of document 01's examples, and of others, by computation: pairs and text are those of its whole example.
use Rattle.std.specs.Prelude.{Ok}
use Prim.Native.Nat.{ℕ}
use mathlib.Core.Path.{◌≡◌, refl}
use mathlib.Core.List.{List, [], ◌∷◌, map}
use Rattle.rast.specs.Bytes.{Bytes, ascii, ◌and◌}
use Rattle.rast.specs.Tree.{MSels, count}
use Rattle.encoding.specs.Refusals.{Answer, map_answer, unless}
use Rattle.encoding.specs.Reading.{read_word, read_below, read_names, whole}
use Rattle.encoding.specs.Tables.{overlong, good_pairs, check_tables, fixed_names, pair_bytes, name_bytes}
use Rattle.encoding.specs.Heads.{read_path, path_head, head_after, read_head}
use Rattle.encoding.specs.Types.{primitives, root_of, path_of, size_of, read_types, read_node, read_type, type_of}
use Rattle.encoding.specs.Declarations.{read_list, read_counted, visibility_of, read_visibility, read_name, read_attribute, read_parameter, read_formal, read_field, read_nameless_field, read_fields, read_case, read_struct, read_enum, read_type_synonym, read_use, declaration_after, read_declaration, declaration_of}
use Rattle.tree_words.specs.Encode.{primitive_word, flags_word, root_word, names, path_tokens, tokens, words, words_all}
use Rattle.declaration_walk.specs.Pieces.{visibility_word, runs, attribute_tokens, attributes_tokens, title_tokens, use_tokens, counted, parameter_pieces, field_pieces, nameless_pieces, fields_pieces, case_pieces, heading, front, rest, pieces}
use Rattle.visits.specs.Visited.{visited, visited_from, visited_pieces, is_entered, visited_declaration, type_visits, declaration_visits}

abbrev pairs : List ℕ
pairs = 0 ∷ 5 ∷ 5 ∷ 13 ∷ 18 ∷ 2 ∷ 20 ∷ 2 ∷ []

abbrev text : Bytes
text = ascii "GaugeOffset in mm.mmid"

unfoldable pub types : List (List ℕ × List ℕ)
types =
    -- (a), (d), (f): a synonym's base is not visited
    (14 ∷ 1 ∷ 12 ∷ 16 ∷ 0 ∷ [], 0 ∷ 2 ∷ 4 ∷ [])
    ∷ (20 ∷ 1 ∷ 0 ∷ 19 ∷ 0 ∷ [], 0 ∷ 2 ∷ 3 ∷ [])
    ∷ (23 ∷ 0 ∷ 11 ∷ [], 0 ∷ 1 ∷ [])
    -- behind a skipped base
    ∷ (19 ∷ 2 ∷ 23 ∷ 15 ∷ 0 ∷ 15 ∷ 1 ∷ 24 ∷ 3 ∷ 11 ∷ [], 0 ∷ 2 ∷ 3 ∷ 4 ∷ 7 ∷ 9 ∷ [])
    ∷ (21 ∷ 22 ∷ 0 ∷ 0 ∷ 13 ∷ 0 ∷ 1 ∷ 16 ∷ [], 0 ∷ 1 ∷ 3 ∷ 4 ∷ [])
    ∷ []

unfoldable pub declarations : List (List ℕ × List ℕ)
declarations =
    -- (h): a struct's fields are not visited
    (25 ∷ 17 ∷ 0 ∷ 16 ∷ 0 ∷ 0 ∷ 2 ∷ 0 ∷ 18 ∷ 7 ∷ 1 ∷ 19 ∷ 15 ∷ 0 ∷ [], [])
    -- its parameters are
    ∷ (25 ∷ 0 ∷ 0 ∷ 16 ∷ 1 ∷ 17 ∷ 2 ∷ 0 ∷ 15 ∷ 1 ∷ 1 ∷ 1 ∷ 0 ∷ 2 ∷ [], 7 ∷ 8 ∷ 9 ∷ [])
    -- an enum's fields are
    ∷ (26 ∷ 0 ∷ 0 ∷ 16 ∷ 0 ∷ 1 ∷ 0 ∷ 17 ∷ 1 ∷ 2 ∷ 0 ∷ 0 ∷ 1 ∷ 1 ∷ [], 11 ∷ 13 ∷ [])
    ∷ (27 ∷ 0 ∷ 1 ∷ 16 ∷ 1 ∷ 17 ∷ 16 ∷ 1 ∷ 18 ∷ 1 ∷ 0 ∷ 15 ∷ 1 ∷ [], 10 ∷ 11 ∷ 12 ∷ [])
    ∷ (28 ∷ 0 ∷ 1 ∷ 1 ∷ 16 ∷ [], [])
    ∷ []

-- each list as it is asked for
abbrev type_lists : List (List ℕ × List ℕ) → List (Answer (List ℕ))
type_lists = map (λ (c : List ℕ × List ℕ). type_visits c.0 pairs text)

abbrev declaration_lists : List (List ℕ × List ℕ) → List (Answer (List ℕ))
declaration_lists = map (λ (c : List ℕ × List ℕ). declaration_visits c.0 pairs text)

abbrev asked : List (List ℕ × List ℕ) → List (Answer (List ℕ))
asked = map (λ (c : List ℕ × List ℕ). Ok c.1)

pub type-examples : type_lists types ≡ asked types
unfolding types type_visits visited visited_from type_of map_answer unless whole check_tables overlong good_pairs ascii ◌and◌ read_type read_node read_types read_head head_after path_head read_path read_names read_word read_below primitives path_of root_of size_of MSels name_bytes fixed_names pair_bytes words words_all tokens path_tokens names root_word primitive_word flags_word count
type-examples = refl

pub declaration-examples : declaration_lists declarations ≡ asked declarations
unfolding declarations declaration_visits visited_declaration visited_pieces is_entered front rest pieces heading counted runs title_tokens attributes_tokens attribute_tokens use_tokens parameter_pieces field_pieces nameless_pieces fields_pieces case_pieces visibility_word declaration_of read_declaration declaration_after read_struct read_enum read_type_synonym read_use read_case read_fields read_field read_nameless_field read_formal read_parameter read_attribute read_name read_visibility visibility_of read_counted read_list visited_from map_answer unless whole check_tables overlong good_pairs ascii ◌and◌ read_type read_node read_types read_head head_after path_head read_path read_names read_word read_below primitives path_of root_of size_of MSels name_bytes fixed_names pair_bytes words words_all tokens path_tokens names root_word primitive_word flags_word count
declaration-examples = refl
