-- The declaration that an encoding holds, with name numbers: what is rebuilt.
use Rattle.std.specs.Prelude.{ℕ, List, length}
use Rattle.rast.specs.Bytes.{Bytes}
use Rattle.rast.specs.Declaration.{Declaration}
use Rattle.encoding.specs.Refusals.{Answer, unless}
use Rattle.encoding.specs.Reading.{whole}
use Rattle.encoding.specs.Tables.{check_tables, name_count}
use Rattle.encoding.specs.Forms.{present}
use Rattle.encoding.specs.Declarations.{read_declaration}
use Rattle.tree_words.specs.Numbered.{tree_at}

unfoldable pub numbered_of : List ℕ → List ℕ → Bytes → Answer (Declaration ℕ)
numbered_of words pairs text = unless (check_tables words pairs text) (whole (length words) (read_declaration present (name_count pairs) words (λ x. x) (tree_at words pairs) 0))
