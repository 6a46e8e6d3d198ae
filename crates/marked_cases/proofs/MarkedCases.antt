-- Document 01's whole example and its marked cases hold, each by computation: the definitions that its answer goes through are opened.
use Rattle.std.proofs.Common.{refl}
use Rattle.rast.specs.Bytes.{ascii, same, begins}
use Rattle.rast.specs.Tree.{MSels, count}
use Rattle.rast.specs.ToString.{Path-to_string, Primitive-to_string, Type-to_string}
use Rattle.rast.specs.Sound.{is_global, sound_path, is_intersection, is_named, is_empty, sound}
use Rattle.rast.specs.Indent.{IND, indent, SeqToString}
use Rattle.rast.specs.Doc.{is_empty_text, GatherSimpleQuotes, DocStringPrefix, at_fence, at_line_start, at_space, convert_body, convert_up_to, ConvertDocstring, ToDocstringPrefix}
use Rattle.rast.specs.DeclarationToString.{Visibility-to_string, Attribute-to_string_multiple, TypeParamDecl-to_string_multiple, Expand, is_underscore, Formal-to_string, Field-to_string, separator_text, begin_space, end_space, Fields-to_string, struct_fields_text, Struct-to_string, Declaration-to_string}
use Rattle.encoding.specs.Refusals.{map_answer, unless}
use Rattle.encoding.specs.Reading.{read_word, read_below, read_names, whole}
use Rattle.encoding.specs.Tables.{check_level, overlong, good_pairs, check_tables, fixed_names, pair_bytes, name_bytes}
use Rattle.encoding.specs.Heads.{read_path, path_head, head_after, read_head}
use Rattle.encoding.specs.Types.{primitives, root_of, path_of, size_of, read_types, read_node, read_type, type_of}
use Rattle.encoding.specs.Declarations.{read_list, read_counted, visibility_of, read_visibility, read_name, read_formal, read_field, read_fields, read_struct, declaration_after, read_declaration, declaration_of}
use Rattle.tree_words.specs.Encode.{token_word, primitive_word, root_word, names, path_tokens, tokens, words, encode}
use Rattle.tree_words.specs.Renamed.{renamed_path, renamed}
use Rattle.tree_words.specs.Numbered.{tree_of}
use Rattle.rebuild_spec.specs.Same.{same_token, same_tokens, same_type, same_by}
use Rattle.rebuild_spec.specs.Replace.{Replace, ruled}
use Rattle.rebuild_spec.specs.Laying.{depth, peak}
use Rattle.rebuild_spec.specs.Rules.{read_rule, read_rules, among_froms as amongRules, repeated, check_all, distinct, rules_of, mapping_of}
use Rattle.declaration_walk.specs.Pieces.{runs, attributes_tokens, title_tokens, counted, field_pieces, fields_pieces, rest, heading, front, pieces}
use Rattle.text_calls.specs.Calls.{type_text}
use Rattle.text_declaration_call.specs.Calls.{declaration_text}
use Rattle.little_endian.specs.Numbers.{numbers_at}
use Rattle.file.specs.File.{described_text, file_text, decimal, refusal_line, printed, printed_file}
use Rattle.sound_type.specs.Calls.{type_is_sound}
use Rattle.visits.specs.Visited.{visited_from, visited, visited_pieces, is_entered, visited_declaration, type_visits, declaration_visits}
use Rattle.known_paths.specs.Paths.{same_path, dafny_runtime, in_runtime, ObjectPath, PtrPath}
use Rattle.known_paths.specs.Matches.{on_path, applied, type_in, argument, unsized}
use Rattle.known_paths.specs.Steps.{when, and_then, or_else}
use Rattle.shapes.specs.Shapes.{IsObject, IsPointer, IsObjectOrPointer, is_number, IsAutoSize}
use Rattle.shapes.specs.Parts.{expanded_at, expanded, ExpandAt}
use Rattle.shapes.specs.Initialization.{MaybeUninitType, PtrType, or_this, new_underlying, TypeAtInitialization}
use Rattle.parts.specs.Answers.{span_of, span_in, part_of, part_words}
use Rattle.rebuild_type.specs.Calls.{laid_down, ruled_by, type_rebuilt}
use Rattle.rebuild_initial.specs.Calls.{type_initialized}
use Rattle.marked_cases.specs.MarkedCases.{AllHold, pairs, text, example, little_endian, example_file, example_text, documented, marked_cases}

pub all_hold : AllHold marked_cases
unfolding pairs text example little_endian example_file example_text documented marked_cases ascii same begins MSels Path-to_string Primitive-to_string Type-to_string is_global sound_path is_intersection is_named is_empty sound IND indent SeqToString is_empty_text GatherSimpleQuotes DocStringPrefix at_fence at_line_start at_space convert_body convert_up_to ConvertDocstring ToDocstringPrefix Visibility-to_string Attribute-to_string_multiple TypeParamDecl-to_string_multiple Expand is_underscore Formal-to_string Field-to_string separator_text begin_space end_space Fields-to_string struct_fields_text Struct-to_string Declaration-to_string map_answer unless read_word read_below read_names whole check_level overlong good_pairs check_tables fixed_names pair_bytes name_bytes read_path path_head head_after read_head primitives root_of path_of size_of read_types read_node read_type type_of read_list read_counted visibility_of read_visibility read_name read_formal read_field read_fields read_struct declaration_after read_declaration declaration_of token_word primitive_word root_word names path_tokens count tokens words encode renamed_path renamed tree_of same_token same_tokens same_type same_by Replace ruled depth peak read_rule read_rules amongRules repeated check_all distinct rules_of mapping_of runs attributes_tokens title_tokens counted field_pieces fields_pieces rest heading front pieces type_text declaration_text numbers_at described_text file_text decimal refusal_line printed printed_file type_is_sound visited_from visited visited_pieces is_entered visited_declaration type_visits declaration_visits same_path dafny_runtime in_runtime ObjectPath PtrPath on_path applied type_in argument unsized when and_then or_else IsObject IsPointer IsObjectOrPointer is_number IsAutoSize expanded_at expanded ExpandAt MaybeUninitType PtrType or_this new_underlying TypeAtInitialization span_of span_in part_of part_words laid_down ruled_by type_rebuilt type_initialized
all_hold = (refl, (refl, (refl, (refl, (refl, (refl, (refl, (refl, (refl, (refl, (refl, (refl, (refl, (refl, (refl, (refl, (refl, (refl, (refl, (refl, (refl, (refl, (refl, (refl, tt))))))))))))))))))))))))
