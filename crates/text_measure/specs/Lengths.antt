-- How many bytes each head adds to the texts of its types, and the code's answers that say so.
use Rattle.std.specs.Prelude.{Ok, Err, Result, ℕ, ◌+◌, ◌*◌, ◌-◌, ◌^◌, ◌≤◌, ◌<◌, ◌≡◌, List, [], ◌∷◌, eqb, length, get_or, take, drop}
use Rattle.rast.specs.Bytes.{Bytes}
use Rattle.rast.specs.Tree.{Ty, U8}
use Rattle.rast.specs.ToString.{Path-to_string, Primitive-to_string, Type-to_string}
use Rattle.encoding.specs.Words.{max_words}
use Rattle.encoding.specs.declared.PathAt.{PathAt}
use Rattle.encoding.specs.declared.Refusal.{Refusal}
use Rattle.encoding.specs.declared.Head.{Head}
use Rattle.encoding.specs.declared.Head.TheVariants.{Plain, Name, FromPath, Apply, Ref, RefMut, Impl, Dyn, Tuple, Function, Both, ArrayOf, Synonym, Meta}
use Rattle.encoding.specs.Refusals.{pick}
use Rattle.encoding.specs.Reading.{Reading, got, stop, ◌>>=◌, read_names}
use Rattle.encoding.specs.Tested.{name_length}
use Rattle.encoding.specs.HeadWords.{kids}
use Rattle.encoding.specs.Types.{primitives, root_of, path_of}
use Rattle.text_measure.specs.declared.Own.{Own}
use Rattle.text_measure.specs.declared.Own.TheVariants.{Leaf, Node}

-- where a type ends and how long its text is
abbrev pub measure_of : Reading (Ty Bytes) → Result (ℕ × ℕ) Refusal
measure_of (got t n) = Ok (n, length (Type-to_string t))
measure_of (stop r) = Err r

-- where a path ends and how long its text is
abbrev pub path_measure_of : List ℕ → (ℕ → Bytes) → Reading PathAt → Result (PathAt × ℕ × ℕ) Refusal
path_measure_of ws name (got p n) = Ok (p, n, length (Path-to_string (path_of ws name p)))
path_measure_of ws name (stop r) = Err r

-- `::` and a name, for each of the names; `len` says how long a name is
unfoldable pub names_length : (ℕ → ℕ) → List ℕ → ℕ
names_length len [] = 0
names_length len (x ∷ xs) = 2 + len x + names_length len xs

unfoldable pub path_length : List ℕ → (ℕ → ℕ) → PathAt → ℕ
path_length ws len p = length (Path-to_string (root_of p.root)) + names_length len (take p.count (drop p.start ws))

-- the brackets of an array, and its size if it has one
unfoldable pub array_length : (ℕ → ℕ) → ℕ → ℕ
array_length len s = pick (eqb s 0) 2 (4 + len (s - 1))

-- a head with one own word
abbrev pub worded : (ℕ → Head) → Reading ℕ → Reading Head
worded f x = x >>= λ w n. got (f w) n

-- a path, from its names
unfoldable pub names_path : ℕ → List ℕ → PathAt → Reading PathAt
names_path bound ws p = read_names bound ws p.count p.start >>= λ u r. got p r

-- the head of a path
abbrev pub head_of_path : Reading PathAt → Reading Head
head_of_path x = x >>= λ p n. got (FromPath p) n

-- what a head adds to the texts of its types
unfoldable pub own_length : List ℕ → (ℕ → ℕ) → Head → ℕ
own_length ws len (Plain w) = length (Primitive-to_string (get_or primitives w U8))
own_length ws len (Name x) = len x
own_length ws len (FromPath p) = path_length ws len p
own_length ws len (Apply n) = 2 * n
own_length ws len Ref = 1
own_length ws len RefMut = 5
own_length ws len Impl = 5
own_length ws len Dyn = 4
own_length ws len (Tuple n) = 2 + 2 * (n - 1)
own_length ws len (Function n) = 20 + 2 * (n - 1)
own_length ws len Both = 3
own_length ws len (ArrayOf s) = array_length len s
own_length ws len Synonym = 0
own_length ws len (Meta x) = 0

-- the mode of a head's types where the head shows: 1 if all show, 2 if the first alone does
abbrev pub mode_of : Head → ℕ
mode_of (Plain w) = 1
mode_of (Name x) = 1
mode_of (FromPath p) = 1
mode_of (Apply n) = 1
mode_of Ref = 1
mode_of RefMut = 1
mode_of Impl = 1
mode_of Dyn = 1
mode_of (Tuple n) = 1
mode_of (Function n) = 1
mode_of Both = 1
mode_of (ArrayOf s) = 1
mode_of Synonym = 2
mode_of (Meta x) = 1

-- a count of types as it is read, or cut down: more than `max_words` of them find no words either way
pub data CutDown (k n : ℕ) : Type 0 where
  exact : k ≡ n → CutDown k n
  many : max_words ≤ k → max_words ≤ n → CutDown k n

-- the answer says what the reading of a path says, and its bytes are few enough that no sum over the words overflows
pub data PathScanned (ws pairs : List ℕ) (x : Reading PathAt) : Result (PathAt × ℕ × ℕ) Refusal → Type 0 where
  read : {p : PathAt} {n b : ℕ} → x ≡ got p n → b ≡ path_length ws (name_length pairs) p → b ≤ 2 ^ 46 → PathScanned ws pairs x (Ok (p, n, b))
  unread : {r : Refusal} → x ≡ stop r → PathScanned ws pairs x (Err r)

-- the answer says what the reading of a head says, with few enough types and bytes that no sum over the words overflows
pub data Scanned (ws pairs : List ℕ) (x : Reading Head) : Result Own Refusal → Type 0 where
  leaf : {h : Head} {n b : ℕ} → x ≡ got h n → kids h ≡ 0 → b ≡ own_length ws (name_length pairs) h → b ≤ 2 ^ 46 → Scanned ws pairs x (Ok (Leaf n b))
  node : {h : Head} {n k b m : ℕ} → x ≡ got h n → CutDown k (kids h) → b ≡ own_length ws (name_length pairs) h → m ≡ mode_of h → 0 < k → k ≤ 2 ^ 15 → b ≤ 2 ^ 46
      → Scanned ws pairs x (Ok (Node n k b m))
  none : {r : Refusal} → x ≡ stop r → Scanned ws pairs x (Err r)
