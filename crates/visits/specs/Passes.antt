-- What a pass over accepted types and declarations needs and does, and what it lays down for a whole encoding.
use Rattle.std.specs.Prelude.{ℕ, ◌≤◌, ◌≡◌, true, false, List, [], length}
use Rattle.rast.specs.Bytes.{Bytes}
use Rattle.rast.specs.Tree.{Ty, Tys}
use Rattle.buffer.specs.Wrote.{Wrote}
use Rattle.encoding.specs.Words.{max_words}
use Rattle.encoding.specs.Refusals.{pick, Answer, map_answer}
use Rattle.encoding.specs.Reading.{got, whole}
use Rattle.encoding.specs.Types.{read_types, type_at}
use Rattle.accepted_types.specs.declared.Spot.{Spot}
use Rattle.accepted_types.specs.Accepted.{Readable}
use Rattle.tree_words.specs.Places.{place}
use Rattle.declaration_walk.specs.declared.Role.{Role}
use Rattle.declaration_walk.specs.declared.After.TheVariants.{FieldList, NoMore}
use Rattle.declaration_walk.specs.declared.Walk.{Walk}
use Rattle.declaration_walk.specs.Pieces.{Piece}
use Rattle.declaration_walk.specs.Walks.{left_at, FieldNext}
use Rattle.accept_declaration.specs.Ends.{Held, held_at}
use Rattle.accept_declaration.specs.declared.Whole.{Whole}
use Rattle.accept_declaration.specs.declared.Whole.TheVariants.{AType, ADeclaration}
use Rattle.visits.specs.Visited.{is_entered, visited, visited_from, visited_all, visited_pieces, visited_declaration, positions}

-- ---- types

-- `due` types stand at `at`, and no more positions were laid down than words passed
pub record TypesDue (ws pairs : List ℕ) (text : Bytes) (at due pos : ℕ) : Type 0 where
  pub few : length ws ≤ max_words
  pub inside : at ≤ length ws
  pub counted : pos ≤ at
  pub there : Readable (read_types (type_at ws pairs text) due at)

-- they were read to where the pass has come, and their list laid down as far as the buffer goes
pub record Visited (ws pairs : List ℕ) (text : Bytes) (at due : ℕ) (o : List ℕ) (pos : ℕ) (o' : List ℕ) (s : Spot) : Type 0 where
  pub types : Tys Bytes
  pub reads : read_types (type_at ws pairs text) due at ≡ got types s.next
  pub wrote : Wrote o pos (positions (visited_all at types)) o' s.pos
  pub counted : s.pos ≤ s.next

-- ---- declarations

-- a type was passed, and its list laid down if its role is entered
pub record TypePassed (ws pairs : List ℕ) (text : Bytes) (a : Role) (at : ℕ) (o : List ℕ) (pos : ℕ) (o' : List ℕ) (s : Spot) : Type 0 where
  pub tpe : Ty Bytes
  pub reads : type_at ws pairs text at ≡ got tpe s.next
  pub wrote : Wrote o pos (positions (pick (is_entered a) (visited_from at tpe) [])) o' s.pos
  pub counted : s.pos ≤ s.next

-- what is left to the walk w was accepted
pub record Ahead (ws pairs : List ℕ) (text : Bytes) (w : Walk) : Type 0 where
  pub few : length ws ≤ max_words
  pub inside : w.place ≤ length ws
  pub there : Readable (left_at ws pairs text w)

-- on the way from the walk w₀: what is left to w, once laid down behind what was, is the whole list
pub record Going (ws pairs : List ℕ) (text : Bytes) (w₀ : Walk) (o : List ℕ) (pos : ℕ) (w : Walk) (o' : List ℕ) (p : ℕ) : Type 0 where
  pub all : List (Piece Bytes)
  pub rest : List (Piece Bytes)
  pub end : ℕ
  pub reads : left_at ws pairs text w₀ ≡ got all end
  pub left : left_at ws pairs text w ≡ got rest end
  pub lays : (o'' : List ℕ) (p'' : ℕ) → Wrote o' p (positions (visited_pieces is_entered w.place rest)) o'' p'' → Wrote o pos (positions (visited_pieces is_entered w₀.place all)) o'' p''
  pub few : length ws ≤ max_words
  pub inside : w.place ≤ length ws
  pub counted : p ≤ w.place
  pub kept : length o' ≡ length o

-- nothing is left to the walk that is entered: nothing at all, or a list of fields that are not
pub data Done (w : Walk) : Type 0 where
  nothing : w.types ≡ 0 → w.parameters ≡ 0 → w.after ≡ NoMore → w.fields ≡ 0 → w.cases ≡ 0 → Done w
  fields_alone : {a : Role} → w.types ≡ 0 → w.parameters ≡ 0 → w.after ≡ FieldList a → is_entered a ≡ false → w.cases ≡ 0 → Done w

-- a field comes next whose type is entered
abbrev pub EntersField : Walk → Type 0
EntersField w = FieldNext w × (is_entered w.role ≡ true)

-- its list was laid down
pub record Entered (ws pairs : List ℕ) (text : Bytes) (w : Walk) (o o' : List ℕ) (p : ℕ) : Type 0 where
  pub pieces : List (Piece Bytes)
  pub end : ℕ
  pub reads : left_at ws pairs text w ≡ got pieces end
  pub wrote : Wrote o 0 (positions (visited_pieces is_entered w.place pieces)) o' p
  pub counted : p ≤ length ws

-- ---- what an encoding holds

-- the visit list of a type or a declaration
abbrev pub held_visits : (what : Whole) → Held what → List ℕ
held_visits AType t = positions (visited (place 0 t))
held_visits ADeclaration d = positions (visited_declaration d)

-- what an encoding holds fills its words
pub record FillsWords (what : Whole) (ws pairs : List ℕ) (text : Bytes) : Type 0 where
  pub value : Held what
  pub reads : held_at what ws pairs text ≡ got value (length ws)

-- the visit list of what an encoding holds was laid down
pub record AllVisited (what : Whole) (ws pairs : List ℕ) (text : Bytes) (o o' : List ℕ) (p : ℕ) : Type 0 where
  pub value : Held what
  pub end : ℕ
  pub reads : held_at what ws pairs text ≡ got value end
  pub wrote : Wrote o 0 (held_visits what value) o' p
  pub counted : p ≤ length ws

-- the list of a tree that fills the words, where the tables are tested already
abbrev pub whole_visits : Whole → List ℕ → List ℕ → Bytes → Answer (List ℕ)
whole_visits what words pairs text = map_answer (held_visits what) (whole (length words) (held_at what words pairs text))
