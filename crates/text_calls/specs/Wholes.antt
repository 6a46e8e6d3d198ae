-- The texts of a type and of a path where the level and the tables are tested already.
use Rattle.std.specs.Prelude.{ℕ, List, length}
use Rattle.rast.specs.Bytes.{Bytes}
use Rattle.rast.specs.ToString.{Path-to_string, Type-to_string}
use Rattle.encoding.specs.Refusals.{Answer, map_answer}
use Rattle.encoding.specs.Reading.{whole}
use Rattle.encoding.specs.Tables.{name_bytes, name_count}
use Rattle.encoding.specs.Heads.{read_path}
use Rattle.encoding.specs.Types.{type_at, path_of}

abbrev pub whole_type_text : List ℕ → List ℕ → Bytes → Answer Bytes
whole_type_text words pairs text = map_answer Type-to_string (whole (length words) (type_at words pairs text 0))

abbrev pub whole_path_text : List ℕ → List ℕ → Bytes → Answer Bytes
whole_path_text words pairs text =
    map_answer Path-to_string (map_answer (path_of words (name_bytes pairs text)) (whole (length words) (read_path (name_count pairs) words 0)))
