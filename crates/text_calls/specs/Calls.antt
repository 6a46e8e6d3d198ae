-- What the text calls give: the answer, and what the buffer holds afterwards.
use Rattle.std.specs.Prelude.{ℕ, List}
use Rattle.rast.specs.Bytes.{Bytes}
use Rattle.rast.specs.ToString.{Path-to_string, Type-to_string}
use Rattle.encoding.specs.Refusals.{Answer, map_answer, unless}
use Rattle.encoding.specs.Tables.{check_level}
use Rattle.encoding.specs.Types.{type_of, path_in}

-- the text of a type; of a path. The level shows in neither, and a bad one comes before all else.
unfoldable pub type_text : List ℕ → List ℕ → Bytes → ℕ → Answer Bytes
type_text words pairs text level = unless (check_level level) (map_answer Type-to_string (type_of words pairs text))

unfoldable pub path_text : List ℕ → List ℕ → Bytes → ℕ → Answer Bytes
path_text words pairs text level = unless (check_level level) (map_answer Path-to_string (path_in words pairs text))
