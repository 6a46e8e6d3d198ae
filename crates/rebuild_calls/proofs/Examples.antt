-- Worked examples of rebuilt types and declarations: document 01's case (g) and its example declaration, and what is easily got wrong. A list for each, and one claim for all of it, by computation.
use Rattle.encoding.specs.declared.Refusal.{Refusal}
use Rattle.std.specs.Prelude.{Ok, Err, Result}
use Prim.Native.Nat.{ℕ}
use mathlib.Core.Path.{◌≡◌, refl}
use mathlib.Core.List.{List, [], ◌∷◌, map}
use lib.ListN.{replicate}
use Rattle.rast.specs.Bytes.{ascii, same, ◌and◌}
use Rattle.encoding.specs.declared.Refusal.TheVariants.{EndsEarly, UnknownWord, LeftOver, BufferTooShort, RepeatedRule}
use Rattle.encoding.specs.Refusals.{unless}
use Rattle.encoding.specs.Reading.{read_word, read_below, read_names, whole}
use Rattle.encoding.specs.Tables.{overlong, good_pairs, check_tables, fixed_names, pair_bytes, name_bytes}
use Rattle.encoding.specs.Heads.{read_path, path_head, head_after, read_head}
use Rattle.encoding.specs.Types.{primitives, root_of, path_of, size_of, read_types, read_node, read_type}
use Rattle.encoding.specs.Declarations.{read_list, read_counted, visibility_of, read_visibility, read_name, read_attribute, read_parameter, read_formal, read_field, read_nameless_field, read_fields, read_case, read_struct, read_enum, read_type_synonym, read_use, declaration_after, read_declaration}
use Rattle.rast.specs.Tree.{MSels, count}
use Rattle.tree_words.specs.Renamed.{renamed_path, renamed_size, renamed}
use Rattle.tree_words.specs.Encode.{token_word, primitive_word, flags_word, root_word, names, path_tokens, tokens, words, words_all, encode}
use Rattle.rebuild_spec.specs.Same.{same_size, same_token, same_tokens, same_type, same_by}
use Rattle.rebuild_spec.specs.Replace.{Replace, ruled}
use Rattle.rebuild_spec.specs.Laying.{depth, peak}
use Rattle.rebuild_spec.specs.Rules.{read_rule, read_rules, among_froms, repeated, distinct, check_all, rules_of, mapping_of}
use Rattle.declaration_walk.specs.Pieces.{visibility_word, runs, attribute_tokens, attributes_tokens, title_tokens, use_tokens, counted, parameter_pieces, field_pieces, nameless_pieces, fields_pieces, case_pieces, heading, front, rest, pieces, piece_tokens, declaration_tokens, encode_declaration}
use Rattle.rebuild_type.specs.Calls.{laid_down, ruled_by, type_rebuilt}
use Rattle.rebuild_declaration.specs.Replacer.{ReplaceTypeParams, ReplaceFields, ReplaceStruct, ReplaceEnumCase, ReplaceEnum, ReplaceTypeDecl, ReplaceUse, ReplaceModDecl}
use Rattle.rebuild_declaration.specs.Laying.{deepest_piece, top_pieces}
use Rattle.rebuild_declaration.specs.Calls.{declaration_rebuilt}

-- words, rules, a buffer's size; the answer, and what the buffer holds, which held 5 before
abbrev Example : Type 0
Example = List ℕ × List ℕ × ℕ × (Result ℕ Refusal) × List ℕ

abbrev zeros : ℕ → List ℕ
zeros n = replicate n 0

-- of types; the text has one pair, `std`
unfoldable pub examples : List Example
examples =
    -- (g): the finished type gives way, and what gives way is finished
    (15 ∷ 1 ∷ [], 2 ∷ 1 ∷ 0 ∷ 15 ∷ 0 ∷ 11 ∷ [], 3, Ok 1, 11 ∷ 5 ∷ 5 ∷ [])
    -- froms are compared with the finished type
    ∷ (15 ∷ 0 ∷ [], 2 ∷ 0 ∷ 1 ∷ 15 ∷ 0 ∷ 11 ∷ [], 2, Ok 2, 15 ∷ 1 ∷ [])
    ∷ (15 ∷ 15 ∷ 0 ∷ [], 1 ∷ 15 ∷ 0 ∷ 0 ∷ [], 3, Ok 1, 0 ∷ 5 ∷ 5 ∷ [])
    -- a to is not searched again
    ∷ (0 ∷ [], 2 ∷ 0 ∷ 1 ∷ 1 ∷ 2 ∷ [], 1, Ok 1, 1 ∷ [])
    -- every child is rebuilt, a synonym's base too
    ∷ (19 ∷ 2 ∷ 0 ∷ 0 ∷ [], 1 ∷ 0 ∷ 1 ∷ [], 4, Ok 4, 19 ∷ 2 ∷ 1 ∷ 1 ∷ [])
    ∷ (23 ∷ 0 ∷ 0 ∷ [], 1 ∷ 0 ∷ 1 ∷ [], 3, Ok 3, 23 ∷ 1 ∷ 1 ∷ [])
    -- names are compared by bytes and keep their numbers; no size is not the empty size
    ∷ (15 ∷ 12 ∷ 1 ∷ [], 1 ∷ 12 ∷ 16 ∷ 12 ∷ 16 ∷ [], 3, Ok 3, 15 ∷ 12 ∷ 16 ∷ [])
    ∷ (15 ∷ 12 ∷ 1 ∷ [], 0 ∷ [], 3, Ok 3, 15 ∷ 12 ∷ 1 ∷ [])
    ∷ (22 ∷ 1 ∷ 0 ∷ [], 1 ∷ 22 ∷ 0 ∷ 0 ∷ 11 ∷ [], 3, Ok 3, 22 ∷ 1 ∷ 0 ∷ [])
    -- the most words that lie there count, not those at the end
    ∷ (13 ∷ 0 ∷ 2 ∷ 1 ∷ 2 ∷ [], 1 ∷ 13 ∷ 0 ∷ 2 ∷ 1 ∷ 2 ∷ 0 ∷ [], 5, Ok 1, 0 ∷ 5 ∷ 5 ∷ 5 ∷ 5 ∷ [])
    ∷ (13 ∷ 0 ∷ 2 ∷ 1 ∷ 2 ∷ [], 1 ∷ 13 ∷ 0 ∷ 2 ∷ 1 ∷ 2 ∷ 0 ∷ [], 4, Err BufferTooShort, zeros 4)
    ∷ (15 ∷ 0 ∷ [], 2 ∷ 0 ∷ 19 ∷ 5 ∷ 1 ∷ 1 ∷ 1 ∷ 1 ∷ 1 ∷ 19 ∷ 5 ∷ 1 ∷ 1 ∷ 1 ∷ 1 ∷ 1 ∷ 11 ∷ [], 7, Err BufferTooShort, zeros 7)
    -- refusals of the list leave the buffer
    ∷ (0 ∷ [], 2 ∷ 0 ∷ 1 ∷ 0 ∷ 1 ∷ [], 1, Err RepeatedRule, 5 ∷ [])
    ∷ (0 ∷ [], 33 ∷ [], 1, Err UnknownWord, 5 ∷ [])
    ∷ (0 ∷ [], 0 ∷ 0 ∷ [], 1, Err LeftOver, 5 ∷ [])
    ∷ []

-- document 01's example declaration, an enum with a parameter and both kinds of fields, a type synonym with a parameter, a use
abbrev a_struct : List ℕ
a_struct = 25 ∷ 17 ∷ 0 ∷ 16 ∷ 0 ∷ 0 ∷ 2 ∷ 0 ∷ 18 ∷ 7 ∷ 1 ∷ 19 ∷ 15 ∷ 0 ∷ []

abbrev an_enum : List ℕ
an_enum = 26 ∷ 17 ∷ 1 ∷ 19 ∷ 2 ∷ 4 ∷ 5 ∷ 16 ∷ 1 ∷ 18 ∷ 1 ∷ 15 ∷ 0 ∷ 2 ∷ 17 ∷ 16 ∷ 0 ∷ 1 ∷ 0 ∷ 19 ∷ 15 ∷ 0 ∷ 17 ∷ 18 ∷ 1 ∷ 2 ∷ 0 ∷ 0 ∷ 1 ∷ 15 ∷ 0 ∷ []

abbrev a_synonym : List ℕ
a_synonym = 27 ∷ 17 ∷ 0 ∷ 16 ∷ 1 ∷ 18 ∷ 1 ∷ 7 ∷ 22 ∷ 0 ∷ 7 ∷ []

abbrev a_use : List ℕ
a_use = 28 ∷ 0 ∷ 1 ∷ 2 ∷ 16 ∷ 18 ∷ []

-- of declarations; the text and the pairs are those of document 01's example
unfoldable pub declaration_examples : List Example
declaration_examples =
    -- document 01's declaration: a type gives way, and own words that look like it stay
    (a_struct, 1 ∷ 7 ∷ 8 ∷ [], 14, Ok 14, 25 ∷ 17 ∷ 0 ∷ 16 ∷ 0 ∷ 0 ∷ 2 ∷ 0 ∷ 18 ∷ 8 ∷ 1 ∷ 19 ∷ 15 ∷ 0 ∷ [])
    ∷ (a_struct, 1 ∷ 0 ∷ 1 ∷ [], 16, Ok 14, 25 ∷ 17 ∷ 0 ∷ 16 ∷ 0 ∷ 0 ∷ 2 ∷ 0 ∷ 18 ∷ 7 ∷ 1 ∷ 19 ∷ 15 ∷ 1 ∷ 5 ∷ 5 ∷ [])
    ∷ (a_struct, 0 ∷ [], 14, Ok 14, a_struct)
    -- as many words as come back are too short a buffer
    ∷ (an_enum, 1 ∷ 15 ∷ 0 ∷ 0 ∷ [], 29, Ok 28, 26 ∷ 17 ∷ 1 ∷ 19 ∷ 2 ∷ 4 ∷ 5 ∷ 16 ∷ 1 ∷ 18 ∷ 1 ∷ 0 ∷ 2 ∷ 17 ∷ 16 ∷ 0 ∷ 1 ∷ 0 ∷ 19 ∷ 0 ∷ 17 ∷ 18 ∷ 1 ∷ 2 ∷ 0 ∷ 0 ∷ 1 ∷ 0 ∷ 5 ∷ [])
    ∷ (an_enum, 1 ∷ 15 ∷ 0 ∷ 0 ∷ [], 28, Err BufferTooShort, zeros 28)
    ∷ (a_synonym, 2 ∷ 7 ∷ 8 ∷ 22 ∷ 0 ∷ 8 ∷ 3 ∷ [], 11, Ok 9, 27 ∷ 17 ∷ 0 ∷ 16 ∷ 1 ∷ 18 ∷ 1 ∷ 8 ∷ 3 ∷ 5 ∷ 5 ∷ [])
    ∷ (a_synonym, 2 ∷ 7 ∷ 8 ∷ 22 ∷ 0 ∷ 8 ∷ 3 ∷ [], 10, Err BufferTooShort, zeros 10)
    -- a use has no types
    ∷ (a_use, 1 ∷ 7 ∷ 8 ∷ [], 6, Ok 6, a_use)
    ∷ (a_use, 1 ∷ 7 ∷ 8 ∷ [], 5, Err BufferTooShort, zeros 5)
    -- refusals leave the buffer, the declaration's before the list's
    ∷ (7 ∷ [], 1 ∷ 7 ∷ 8 ∷ [], 1, Err UnknownWord, 5 ∷ [])
    ∷ (28 ∷ 0 ∷ 1 ∷ 2 ∷ 16 ∷ [], 33 ∷ [], 1, Err EndsEarly, 5 ∷ [])
    ∷ (a_use, 2 ∷ 7 ∷ 8 ∷ 7 ∷ 8 ∷ [], 1, Err RepeatedRule, 5 ∷ [])
    ∷ []

abbrev asked : Example → Result ℕ Refusal × List ℕ
asked e = laid_down (replicate e.2 5) (type_rebuilt e.0 (0 ∷ 3 ∷ []) (ascii "std") e.1)

abbrev declaration_asked : Example → Result ℕ Refusal × List ℕ
declaration_asked e = laid_down (replicate e.2 5) (declaration_rebuilt e.0 (0 ∷ 5 ∷ 5 ∷ 13 ∷ 18 ∷ 2 ∷ 20 ∷ 2 ∷ []) (ascii "GaugeOffset in mm.mmid") e.1)

abbrev told : Example → Result ℕ Refusal × List ℕ
told e = (e.3, e.4)

pub all-examples : map asked examples ≡ map told examples
unfolding examples ascii same ◌and◌ unless read_word read_below read_names whole overlong good_pairs check_tables fixed_names pair_bytes name_bytes read_path path_head head_after read_head primitives root_of path_of size_of read_types read_node read_type read_list MSels renamed_path renamed_size renamed token_word primitive_word flags_word root_word names path_tokens count tokens words words_all encode same_size same_token same_tokens same_type same_by Replace ruled depth peak read_rule read_rules among_froms repeated distinct check_all rules_of mapping_of laid_down ruled_by type_rebuilt
all-examples = refl

pub all-declarations : map declaration_asked declaration_examples ≡ map told declaration_examples
unfolding declaration_examples ascii same ◌and◌ unless read_word read_below read_names whole overlong good_pairs check_tables fixed_names pair_bytes name_bytes read_path path_head head_after read_head primitives root_of path_of size_of read_types read_node read_type read_list MSels renamed_path renamed_size renamed token_word primitive_word flags_word root_word names path_tokens count tokens words words_all encode same_size same_token same_tokens same_type same_by Replace ruled depth peak read_rule read_rules among_froms repeated distinct check_all rules_of mapping_of laid_down ruled_by read_counted visibility_of read_visibility read_name read_attribute read_parameter read_formal read_field read_nameless_field read_fields read_case read_struct read_enum read_type_synonym read_use declaration_after read_declaration visibility_word runs attribute_tokens attributes_tokens title_tokens use_tokens counted parameter_pieces field_pieces nameless_pieces fields_pieces case_pieces heading front rest pieces piece_tokens declaration_tokens encode_declaration ReplaceTypeParams ReplaceFields ReplaceStruct ReplaceEnumCase ReplaceEnum ReplaceTypeDecl ReplaceUse ReplaceModDecl deepest_piece top_pieces declaration_rebuilt
all-declarations = refl
