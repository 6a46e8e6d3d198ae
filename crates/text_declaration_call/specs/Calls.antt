-- What the call for the text of a declaration gives.
use Rattle.std.specs.Prelude.{ℕ, List}
use Rattle.rast.specs.Bytes.{Bytes}
use Rattle.rast.specs.DeclarationToString.{Declaration-to_string}
use Rattle.encoding.specs.Refusals.{Answer, map_answer, unless}
use Rattle.encoding.specs.Tables.{check_level}
use Rattle.encoding.specs.Declarations.{declaration_of}

-- the text of a declaration at a level; a bad level comes before all else
unfoldable pub declaration_text : List ℕ → List ℕ → Bytes → ℕ → Answer Bytes
declaration_text words pairs text level = unless (check_level level) (map_answer (Declaration-to_string level) (declaration_of words pairs text))
