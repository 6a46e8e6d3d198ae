-- The tree that an encoding holds, with name numbers: what is rebuilt.
use Rattle.std.specs.Prelude.{ℕ, List, length}
use Rattle.rast.specs.Bytes.{Bytes}
use Rattle.rast.specs.Tree.{Ty}
use Rattle.encoding.specs.Words.{max_depth}
use Rattle.encoding.specs.Refusals.{Answer, unless}
use Rattle.encoding.specs.Reading.{Reading, whole}
use Rattle.encoding.specs.Tables.{check_tables, name_count}
use Rattle.encoding.specs.Types.{read_type}

-- the type that stands at a position
abbrev pub tree_at : List ℕ → List ℕ → ℕ → Reading (Ty ℕ)
tree_at ws pairs at = read_type (name_count pairs) ws (λ x. x) max_depth at

-- the type that an encoding holds
unfoldable pub tree_of : List ℕ → List ℕ → Bytes → Answer (Ty ℕ)
tree_of words pairs text = unless (check_tables words pairs text) (whole (length words) (tree_at words pairs 0))
