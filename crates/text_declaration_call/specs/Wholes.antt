-- The text of a declaration where the level and the tables are tested already.
use Rattle.std.specs.Prelude.{ℕ, List, length}
use Rattle.rast.specs.Bytes.{Bytes}
use Rattle.rast.specs.DeclarationToString.{Declaration-to_string}
use Rattle.encoding.specs.Refusals.{Answer, map_answer}
use Rattle.encoding.specs.Reading.{whole}
use Rattle.encoding.specs.Declarations.{declaration_at}

abbrev pub whole_declaration_text : List ℕ → List ℕ → Bytes → ℕ → Answer Bytes
whole_declaration_text words pairs text level = map_answer (Declaration-to_string level) (whole (length words) (declaration_at words pairs text 0))
