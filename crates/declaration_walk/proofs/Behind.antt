-- What is left to a walk behind own words, of a declaration that was read.
use Prim.Native.Nat.{ℕ}
use mathlib.Core.Path.{◌≡◌, ap, sym, ◌∙◌}
use mathlib.Core.List.{List, ◌++◌, map}
use Rattle.rast.specs.Tree.{Ty}
use Rattle.rast.specs.Declaration.{Declaration}
use Rattle.encoding.specs.Reading.{Reading, got, stop}
use Rattle.encoding.specs.Scans.{map_reading}
use Rattle.encoding.specs.Forms.{present}
use Rattle.encoding.specs.Declarations.{read_declaration}
use Rattle.encoding.proofs.Tables.{impossible}
use Rattle.tree_words.specs.Tokens.{renamed_token}
use Rattle.declaration_walk.specs.Pieces.{Piece, own_pieces, pieces}
use Rattle.declaration_walk.specs.Walks.{ahead, left_of, Opening, read_opening, opened}
use Rattle.declaration_walk.proofs.Openings.{declaration-pieces}
use Rattle.declaration_walk.proofs.Passes.{bind-at}

-- what x reads is those pieces behind ps
pub record Behind {N : Type 0} (ps qs : List (Piece N)) (x : Reading (List (Piece N))) (n : ℕ) : Type 0 where
  pub left : List (Piece N)
  pub reads : x ≡ got left n
  pub parts : qs ≡ ps ++ left

pub behind-got : {N : Type 0} (ps : List (Piece N)) (x : Reading (List (Piece N))) {qs : List (Piece N)} {n : ℕ} → ahead ps x ≡ got qs n → Behind ps qs x n
unfolding ahead map_reading
behind-got ps (got rs m) {qs} {n} e = let z : m ≡ n = cc in record { left = rs; reads = ap (got rs) z; parts = cc }
behind-got ps (stop r) e = impossible (cc)

module _ {N : Type 0} (bound : ℕ) (ws : List ℕ) (nm : ℕ → N) (ty : ℕ → Reading (Ty N)) where
  -- what is left behind the opening of a declaration
  pub whole-left : (at : ℕ) {d : Declaration N} {e : ℕ} {o : Opening} {n : ℕ} → read_declaration present bound ws nm ty at ≡ got d e → read_opening present bound ws at ≡ got o n
      → Behind (own_pieces (map (renamed_token nm) o.tokens)) (pieces present d) (left_of present bound ws nm ty (opened o n)) e
  unfolding map_reading
  whole-left at {d} {e} {o} {n} h k =
      behind-got _ (left_of present bound ws nm ty (opened o n)) (sym (bind-at (read_opening present bound ws at) _ k) ∙ sym (declaration-pieces bound ws nm ty at) ∙ ap (map_reading (pieces present)) h)
