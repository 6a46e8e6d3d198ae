-- The type at initialization where the tables hold, and the pieces that its words are copied from.
use Rattle.std.specs.Prelude.{Option, Some, None, ◌≡◌, ℕ, ◌+◌, ◌<◌, ◌≤◌, Bool, true, false, List, [], ◌∷◌, ◌++◌, length, ◌==◌, slice_index, slice_range}
use Rattle.rast.specs.Bytes.{Bytes, ◌and◌}
use Rattle.rast.specs.Tree.{Path, Ty}
use Rattle.rast.specs.DeclarationToString.{Expand}
use Rattle.encoding.specs.Words.{from_path_kind, type_app_kind, global_root, std_name, mem_name, maybe_uninit_name, dafny_runtime_name, object_name, ptr_name}
use Rattle.encoding.specs.Refusals.{pick, Answer, map_answer}
use Rattle.encoding.specs.Reading.{Reading, got, whole}
use Rattle.encoding.specs.Tables.{name_bytes, name_count}
use Rattle.encoding.specs.Types.{read_type, type_at}
use Rattle.tree_words.specs.Encode.{encode}
use Rattle.tree_words.specs.Renamed.{renamed}
use Rattle.tree_words.specs.Numbered.{tree_at}
use Rattle.rebuild_spec.specs.Laying.{depth}
use Rattle.unwrap.specs.Asked.{Judges}
use Rattle.known_paths.specs.declared.Class.{Class}
use Rattle.known_paths.specs.Asked.{found, Finds}
use Rattle.known_paths.specs.Classes.{in_class, member_in, arity, is_of}
use Rattle.known_paths.specs.Matches.{argument}
use Rattle.known_paths.specs.Paths.{runtime_member}
use Rattle.known_paths.specs.Steps.{when, and_then, argument_at}
use Rattle.shapes.specs.Parts.{ObjectOrPointerUnderlying}
use Rattle.shapes.specs.Shapes.{IsObject, IsObjectOrPointer}
use Rattle.shapes.specs.Initialization.{own_number, new_underlying}
use Rattle.rebuild_type.specs.Calls.{RebuiltWords}
use Rattle.rebuild_initial.specs.Calls.{laid_init}

-- the type that fills the words, as it stands at initialization; the tables hold
unfoldable pub whole_initialized : List ℕ → List ℕ → Bytes → Answer RebuiltWords
whole_initialized words pairs text = map_answer (laid_init (name_bytes pairs text)) (whole (length words) (tree_at words pairs 0))

-- the type at the front, if it is at most `deep` types deep
abbrev pub type_within : ℕ → List ℕ → List ℕ → Bytes → Reading (Ty Bytes)
type_within deep words pairs text = read_type (name_count pairs) words (name_bytes pairs text) deep 0

-- ---- the pieces

-- the words of `Object` or `Ptr` of a type, and of `MaybeUninit` of a type, before those of the type
abbrev pub pointer_words : ℕ → List ℕ
pointer_words name = type_app_kind ∷ 1 ∷ from_path_kind ∷ global_root ∷ 2 ∷ dafny_runtime_name ∷ name ∷ []

abbrev pub uninit_words : List ℕ
uninit_words = type_app_kind ∷ 1 ∷ from_path_kind ∷ global_root ∷ 3 ∷ std_name ∷ mem_name ∷ maybe_uninit_name ∷ []

-- the words of the whole: the array's own words stand from `start` to `element`, its element's from there to `end`
abbrev pub initial_words : List ℕ → ℕ → ℕ → ℕ → ℕ → List ℕ
initial_words ws name start element end =
    pointer_words name ++ (slice_range ws start element ++ (uninit_words ++ slice_range ws element end))

-- the type under the pointer, if it is an array that changes
unfoldable pub new_array : (ℕ → Bytes) → Ty ℕ → Option (Ty ℕ)
new_array bytes t = when (IsObjectOrPointer (renamed bytes t)) (and_then (argument 0 (Expand t)) (new_underlying own_number (renamed bytes)))

-- the name of the pointer: 11 `Object`, 12 `Ptr`
pub record Named (bytes : ℕ → Bytes) (x : Reading (Ty ℕ)) (name : ℕ) : Type 0 where
  pub names : (t : Ty ℕ) (n : ℕ) → x ≡ got t n → name ≡ pick (IsObject (renamed bytes t)) object_name ptr_name

-- that of an `Object` whose words begin at `place`: behind wrappers it becomes a `Ptr`
unfoldable pub pointer_name : ℕ → ℕ
pointer_name place = pick (place == 0) object_name ptr_name

-- ---- the pointer

-- a class of members of `dafny_runtime` that are applied to one type
pub record Member (class : Class) : Type 0 where
  pub one : arity class ≡ 1
  pub by : (p : Path Bytes) → in_class class p ≡ runtime_member (member_in class) p

-- r says whether a member of `dafny_runtime` is applied to one type there: its name is then the seventh word, and the type stands behind it
pub record OfRuntime (ws pairs : List ℕ) (text : Bytes) (at : ℕ) (r : Bool) : Type 0 where
  pub inside : r ≡ true → at + 6 < length ws
  pub below : r ≡ true → slice_index ws (at + 6) < name_count pairs
  pub of : (class : Class) → Member class → Judges (is_of class) (type_at ws pairs text at) (r and member_in class (name_bytes pairs text (slice_index ws (at + 6))))
  pub argument : (t : Ty Bytes) (n : ℕ) → r ≡ true → type_at ws pairs text at ≡ got t n → found (argument_at 0 at t) ≡ Some (at + 7)

-- where the type under a pointer stands
unfoldable pub under_pointer : Option (ℕ × ℕ) → Option ℕ
under_pointer (Some (name, at)) = Some at
under_pointer None = None

-- the pointer that the type at the front is
pub record Points (ws pairs : List ℕ) (text : Bytes) (r : Option (ℕ × ℕ)) : Type 0 where
  pub part : Finds ObjectOrPointerUnderlying (type_at ws pairs text) 0 (under_pointer r)
  pub name : (k at : ℕ) → r ≡ Some (k, at) → Named (name_bytes pairs text) (tree_at ws pairs 0) k

-- ---- the array

-- where the pieces of a new array stand, if there is one: the element ends at `end`, and at least `around` types stand around it in t
pub data Pieces (ws pairs : List ℕ) (around : ℕ) (t : Ty ℕ) (end : ℕ) (new : Option (Ty ℕ)) : Option (ℕ × ℕ) → Type 0 where
  pieces : {array u : Ty ℕ} {start element : ℕ} → new ≡ Some array → start ≤ element → element ≤ length ws → tree_at ws pairs element ≡ got u end
      → encode array ≡ slice_range ws start element ++ (uninit_words ++ encode u) → depth array ≡ 2 + depth u → around + depth u ≤ depth t
      → Pieces ws pairs around t end new (Some (start, element))
  unchanged : new ≡ None → Pieces ws pairs around t end new None

-- what f makes of the tree at a position, by its pieces
pub record Becomes (f : Ty ℕ → Option (Ty ℕ)) (around : ℕ) (ws pairs : List ℕ) (at : ℕ) (r : Option (ℕ × ℕ)) : Type 0 where
  pub tree : Ty ℕ
  pub end : ℕ
  pub reads : tree_at ws pairs at ≡ got tree end
  pub by : Pieces ws pairs around tree end (f tree) r

-- a type fills the words, and is less deep than it may be unless `deepest` is true
pub record FillsWhole (ws pairs : List ℕ) (deepest : Bool) : Type 0 where
  pub tree : Ty ℕ
  pub reads : tree_at ws pairs 0 ≡ got tree (length ws)
  pub shallow : deepest ≡ false → depth tree ≤ 63

-- an element reaches to the end of the words, and is not too deep unless `deepest` is true
pub record Shallow (ws pairs : List ℕ) (element : ℕ) (deepest : Bool) : Type 0 where
  pub tree : Ty ℕ
  pub inside : element ≤ length ws
  pub reads : tree_at ws pairs element ≡ got tree (length ws)
  pub shallow : deepest ≡ false → depth tree ≤ 61
