-- The steps by which a declaration is rebuilt.
use Rattle.std.specs.Prelude.{Some, None, Option, ℕ, ◌+◌, ◌≤◌, ◌<◌, ◌≡◌, List, [], map, length}
use Rattle.rast.specs.Bytes.{Bytes}
use Rattle.rast.specs.Tree.{Ty}
use Rattle.rast.specs.Declaration.{Declaration}
use Rattle.encoding.specs.Reading.{Reading, got}
use Rattle.encoding.specs.Forms.{present}
use Rattle.encoding.specs.Tables.{name_count}
use Rattle.encoding.specs.Tested.{Good}
use Rattle.tree_words.specs.Encode.{token_word}
use Rattle.tree_words.specs.Numbered.{tree_at}
use Rattle.accepted_types.specs.Accepted.{Readable}
use Rattle.rebuild_spec.specs.Replace.{Replace}
use Rattle.declaration_walk.specs.declared.Walk.{Walk}
use Rattle.declaration_walk.specs.Pieces.{Piece, runs, piece_tokens}
use Rattle.declaration_walk.specs.Walks.{ahead, left_of, past_field}
use Rattle.declaration_walk.specs.Mapped.{piece_with}
use Rattle.rebuild_type.specs.Laid.{Grown, Rebuilds, Ruled}
use Rattle.rebuild_declaration.specs.declared.Advance.{Advance}
use Rattle.rebuild_declaration.specs.declared.Advance.TheVariants.{Further, Finished, NoSpace}
use Rattle.rebuild_declaration.specs.Laying.{deepest_piece, top_pieces}
use Rattle.rebuild_declaration.specs.Calls.{laid_declaration}

-- the words of pieces
unfoldable pub encode_pieces : List (Piece ℕ) → List ℕ
encode_pieces ps = map token_word (runs piece_tokens ps)

-- pieces with their types rebuilt, by their words and their depth
abbrev pub rebuilt_words : (Ty ℕ → Ty ℕ) → List (Piece ℕ) → List ℕ
rebuilt_words m ps = encode_pieces (map (piece_with (Replace m)) ps)

abbrev pub rebuilt_depth : (Ty ℕ → Ty ℕ) → List (Piece ℕ) → ℕ
rebuilt_depth m ps = deepest_piece (map (piece_with (Replace m)) ps)

-- what is left of a declaration to a walk, by name numbers
abbrev pub left_in : List ℕ → List ℕ → Walk → Reading (List (Piece ℕ))
left_in ws pairs w = left_of present (name_count pairs) ws (λ x. x) (tree_at ws pairs) w

-- they were rebuilt, or more words would lie there than the limit
abbrev pub PiecesRebuild : (Ty ℕ → Ty ℕ) → ℕ → List ℕ → ℕ → Reading (List (Piece ℕ)) → List ℕ → Option (ℕ × ℕ × ℕ) → Type 0
PiecesRebuild m limit o p x o' r = Rebuilds (λ ps. rebuilt_words m ps) (λ ps. top_pieces m ps) (λ ps. rebuilt_depth m ps) limit o p x o' r

-- what is left to a walk can be rebuilt: the tables hold, the rules are read, and words may be laid down from p on up to the limit
pub record WalkReady (ws pairs : List ℕ) (text : Bytes) (rules table : List ℕ) (k : ℕ) (w : Walk) (o : List ℕ) (p limit : ℕ) : Type 0 where
  pub good : Good pairs text
  pub ruled : Ruled rules pairs text table k
  pub readable : Readable (left_in ws pairs w)
  pub inside : w.place ≤ length ws
  pub within : p ≤ limit
  pub room : limit ≤ length o

-- pieces were laid down from p on, their types rebuilt
pub record PiecesLaid (m : Ty ℕ → Ty ℕ) (limit : ℕ) (o : List ℕ) (p : ℕ) (ps : List (Piece ℕ)) (o' : List ℕ) (q d : ℕ) : Type 0 where
  pub fits : p + top_pieces m ps ≤ limit
  pub within : q ≤ limit
  pub grown : Grown o p (rebuilt_words m ps) o' q
  pub deeps : d ≡ rebuilt_depth m ps

-- more words would lie there than the limit
pub record PiecesOver (m : Ty ℕ → Ty ℕ) (limit : ℕ) (o : List ℕ) (p : ℕ) (ps : List (Piece ℕ)) (o' : List ℕ) : Type 0 where
  pub over : limit < p + top_pieces m ps
  pub kept : length o' ≡ length o

-- pieces were laid down, and the walk goes on; or nothing was left; or more words would lie there than the limit
pub data Advanced (m : Ty ℕ → Ty ℕ) (ws pairs : List ℕ) (w : Walk) (limit : ℕ) (o : List ℕ) (p : ℕ) (o' : List ℕ) : Advance → Type 0 where
  further : {w' : Walk} {q d : ℕ} (ps : List (Piece ℕ)) → left_in ws pairs w ≡ ahead ps (left_in ws pairs w') → w.place < w'.place → w'.place ≤ length ws
      → PiecesLaid m limit o p ps o' q d → Advanced m ws pairs w limit o p o' (Further w' q d)
  finished : left_in ws pairs w ≡ got [] w.place → o' ≡ o → Advanced m ws pairs w limit o p o' Finished
  no_space : {ps : List (Piece ℕ)} {n : ℕ} → left_in ws pairs w ≡ got ps n → PiecesOver m limit o p ps o' → Advanced m ws pairs w limit o p o' NoSpace

-- what a field that was rebuilt, or was not, makes of a walk before it
unfoldable pub field_advance : Walk → Option (ℕ × ℕ × ℕ) → Advance
field_advance w (Some (n, q, d)) = Further (past_field w n) q d
field_advance w None = NoSpace

-- a declaration that was read was rebuilt at the front of a buffer, or more words would lie there than the limit
abbrev pub DeclarationRebuilds : (Ty ℕ → Ty ℕ) → ℕ → List ℕ → Reading (Declaration ℕ) → List ℕ → Option (ℕ × ℕ × ℕ) → Type 0
DeclarationRebuilds m limit o x o' r = Rebuilds (λ d. (laid_declaration m d).words) (λ d. (laid_declaration m d).top) (λ d. (laid_declaration m d).deep) limit o 0 x o' r
