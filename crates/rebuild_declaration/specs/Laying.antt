-- A declaration is laid down in the order of its words: its own words as they are, and each of its types rebuilt.
use Rattle.std.specs.Prelude.{ℕ, ◌+◌, max, List, [], ◌∷◌}
use Rattle.rast.specs.Tree.{Ty}
use Rattle.tree_words.specs.Encode.{words}
use Rattle.rebuild_spec.specs.Replace.{Replace}
use Rattle.rebuild_spec.specs.Laying.{depth, peak}
use Rattle.declaration_walk.specs.Pieces.{Piece, own, type}

-- the deepest type among pieces
unfoldable pub deepest_piece : {N : Type 0} → List (Piece N) → ℕ
deepest_piece [] = 0
deepest_piece (own k ∷ ps) = deepest_piece ps
deepest_piece (type r t ∷ ps) = max (depth t) (deepest_piece ps)

-- the most words that lie there while pieces are laid down, their types rebuilt
unfoldable pub top_pieces : {N : Type 0} → (Ty N → Ty N) → List (Piece N) → ℕ
top_pieces m [] = 0
top_pieces m (own k ∷ ps) = 1 + top_pieces m ps
top_pieces m (type r t ∷ ps) = max (peak m t) (words (Replace m t) + top_pieces m ps)
