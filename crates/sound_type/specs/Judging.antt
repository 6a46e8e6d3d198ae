-- The flat pass that judges a type: what each type is asked, and what is left to the pass.
use Rattle.std.specs.Prelude.{Result, Ok, Err, ℕ, suc, ◌+◌, ◌*◌, ◌-◌, ◌/◌, ◌%◌, ◌^◌, ◌≤◌, ◌<◌, ◌≡◌, Bool, true, false, not, List, [], ◌∷◌, ltb, eqb, length, get_or, take, drop, set}
use Rattle.rast.specs.Bytes.{Bytes, ◌and◌}
use Rattle.rast.specs.Tree.{Ty, Tys, nil, cons}
use Rattle.rast.specs.Sound.{sound_name, sound_size, sound_path, is_named, is_intersection, sound}
use Rattle.encoding.specs.Words.{max_pairs, max_depth}
use Rattle.encoding.specs.declared.Refusal.{Refusal}
use Rattle.encoding.specs.declared.Refusal.TheVariants.{UnknownWord}
use Rattle.encoding.specs.declared.Head.{Head}
use Rattle.encoding.specs.declared.Head.TheVariants.{Plain, Name, FromPath, Apply, Ref, RefMut, Impl, Dyn, Tuple, Function, Both, ArrayOf, Synonym, Meta}
use Rattle.encoding.specs.Refusals.{pick}
use Rattle.encoding.specs.Reading.{Reading, got, stop, ◌>>=◌, read_names}
use Rattle.encoding.specs.Tables.{name_bytes, name_count}
use Rattle.encoding.specs.Tested.{Good}
use Rattle.encoding.specs.HeadWords.{kids}
use Rattle.encoding.specs.Types.{path_of, size_of, read_types, read_type}
use Rattle.text_measure.specs.Lengths.{CutDown}
use Rattle.text_measure.specs.Levels.{stacked}
use Rattle.sound_type.specs.declared.OwnScan.{OwnScan}
use Rattle.sound_type.specs.declared.OwnScan.TheVariants.{Leaf, Node, NotSound}
use Rattle.sound_type.specs.declared.Pass.{Pass}
use Rattle.sound_type.specs.declared.Step.{Step}
use Rattle.sound_type.specs.declared.Step.TheVariants.{On, Ended, Unfit}

-- the tables keep their rule, and the number of a name fits 16 bits
abbrev pub TablesReady : List ℕ → Bytes → Type 0
TablesReady pairs text = Good pairs text × (length pairs / 2 ≤ max_pairs)

-- ---- names

-- names that were found sound: each that stands in its place is one
pub record Known (pairs : List ℕ) (text : Bytes) (known : List ℕ) : Type 0 where
  pub room : length known ≡ 64
  pub inside : (x : ℕ) → get_or known (x % 64) 0 ≡ x → x < name_count pairs
  pub sound : (x : ℕ) → get_or known (x % 64) 0 ≡ x → sound_name (name_bytes pairs text x) ≡ true

-- each of some names, by its number
unfoldable pub all_names_sound : (ℕ → Bytes) → List ℕ → Bool
all_names_sound name [] = true
all_names_sound name (x ∷ xs) = sound_name (name x) and all_names_sound name xs

-- nothing is asked of what is not judged
unfoldable pub unless_judged : ℕ → Bool → Bool
unless_judged ask s = pick (eqb ask 0) true s

-- a name, as it was found
pub data NameChecked (pairs : List ℕ) (text : Bytes) (x : ℕ) : Result Bool Refusal → Type 0 where
  fine : x < name_count pairs → sound_name (name_bytes pairs text x) ≡ true → NameChecked pairs text x (Ok true)
  poor : sound_name (name_bytes pairs text x) ≡ false → NameChecked pairs text x (Ok false)
  no_name : name_count pairs ≤ x → NameChecked pairs text x (Err UnknownWord)

-- the names from `start` to i are as they are asked to be, so those from i on decide
pub record NamesOnward (bound : ℕ) (ws : List ℕ) (name : ℕ → Bytes) (ask start end i : ℕ) : Type 0 where
  pub after : start ≤ i
  pub within : i ≤ end
  pub inside : i ≤ length ws
  pub read : read_names bound ws (end - i) i ≡ read_names bound ws (end - start) start
  pub fit : unless_judged ask (all_names_sound name (take (end - i) (drop i ws))) ≡ unless_judged ask (all_names_sound name (take (end - start) (drop start ws)))

-- the same whatever is asked of them
abbrev pub OnwardAlways : ℕ → List ℕ → (ℕ → Bytes) → ℕ → ℕ → ℕ → Type 0
OnwardAlways bound ws name start end i = (ask : ℕ) → NamesOnward bound ws name ask start end i

-- ---- what a type is asked

-- 2: a name or a path, 3: no intersection; `is_named` and `is_intersection` look through wrappers
unfoldable pub shape_fits : ℕ → Ty Bytes → Bool
shape_fits ask t = pick (eqb ask 2) (is_named t) (pick (eqb ask 3) (not (is_intersection t)) true)

-- a type is as it is asked to be
unfoldable pub sound_as : ℕ → Ty Bytes → Bool
sound_as ask t = unless_judged ask (shape_fits ask t and sound t)

-- some types: the last is asked `ask`, the others only to be sound, or nothing if it is not judged
unfoldable pub sound_rest : ℕ → Tys Bytes → Bool
sound_rest ask nil = true
sound_rest ask (cons t nil) = sound_as ask t
sound_rest ask (cons t (cons u us)) = sound_as (ask % 2) t and sound_rest ask (cons u us)

-- the same behind a first one with an ask of its own
unfoldable pub sound_from : ℕ → ℕ → Tys Bytes → Bool
sound_from first ask nil = true
sound_from first ask (cons t ts) = sound_as first t and sound_rest ask ts

-- ---- a head's type, from its own words and the types below it

-- the shape that a head gives its type; a wrapper's is that of its display
abbrev pub head_fits : ℕ → Head → Bool
head_fits ask (Plain w) = not (eqb ask 2)
head_fits ask (Name x) = true
head_fits ask (FromPath p) = true
head_fits ask (Apply n) = not (eqb ask 2)
head_fits ask Ref = not (eqb ask 2)
head_fits ask RefMut = not (eqb ask 2)
head_fits ask Impl = not (eqb ask 2)
head_fits ask Dyn = not (eqb ask 2)
head_fits ask (Tuple n) = not (eqb ask 2)
head_fits ask (Function n) = not (eqb ask 2)
head_fits ask Both = not (eqb ask 2) and not (eqb ask 3)
head_fits ask (ArrayOf s) = not (eqb ask 2)
head_fits ask Synonym = true
head_fits ask (Meta x) = true

-- what is sound about a head's own words
unfoldable pub words_sound : List ℕ → (ℕ → Bytes) → Head → Bool
words_sound ws name (Plain w) = true
words_sound ws name (Name x) = sound_name (name x)
words_sound ws name (FromPath p) = sound_path (path_of ws name p)
words_sound ws name (Apply n) = ltb 0 n
words_sound ws name Ref = true
words_sound ws name RefMut = true
words_sound ws name Impl = true
words_sound ws name Dyn = true
words_sound ws name (Tuple n) = true
words_sound ws name (Function n) = true
words_sound ws name Both = true
words_sound ws name (ArrayOf s) = sound_size (size_of name s)
words_sound ws name Synonym = true
words_sound ws name (Meta x) = true

unfoldable pub head_sound : List ℕ → (ℕ → Bytes) → ℕ → Head → Bool
head_sound ws name ask h = unless_judged ask (head_fits ask h and words_sound ws name h)

-- what the first of a head's types is asked where the head is judged: an applied type must be named; intersections stand in few places
abbrev pub first_judged : ℕ → Head → ℕ
first_judged ask (Plain w) = 1
first_judged ask (Name x) = 1
first_judged ask (FromPath p) = 1
first_judged ask (Apply n) = 2
first_judged ask Ref = 3
first_judged ask RefMut = 3
first_judged ask Impl = 3
first_judged ask Dyn = 3
first_judged ask (Tuple n) = 1
first_judged ask (Function n) = pick (eqb n 0) 3 1
first_judged ask Both = 3
first_judged ask (ArrayOf s) = 1
first_judged ask Synonym = ask
first_judged ask (Meta x) = ask

-- and what the last of the others is asked; a synonym's base is not judged
abbrev pub last_judged : Head → ℕ
last_judged (Plain w) = 0
last_judged (Name x) = 0
last_judged (FromPath p) = 0
last_judged (Apply n) = 1
last_judged Ref = 0
last_judged RefMut = 0
last_judged Impl = 0
last_judged Dyn = 0
last_judged (Tuple n) = 1
last_judged (Function n) = 3
last_judged Both = 1
last_judged (ArrayOf s) = 0
last_judged Synonym = 0
last_judged (Meta x) = 0

unfoldable pub first_ask : ℕ → Head → ℕ
first_ask ask h = pick (eqb ask 0) 0 (first_judged ask h)

unfoldable pub last_ask : ℕ → Head → ℕ
last_ask ask h = pick (eqb ask 0) 0 (last_judged h)

-- the answer says what the reading of a head says, or that its type is not as it is asked to be; how many types follow may be cut down
pub data Scanned (ws pairs : List ℕ) (text : Bytes) (ask : ℕ) (x : Reading Head) : Result OwnScan Refusal → Type 0 where
  leaf : {h : Head} {n : ℕ} → x ≡ got h n → kids h ≡ 0 → head_sound ws (name_bytes pairs text) ask h ≡ true → Scanned ws pairs text ask x (Ok (Leaf n))
  node : {h : Head} {n a l : ℕ} → x ≡ got h n → CutDown (l / 4 + 1) (kids h) → head_sound ws (name_bytes pairs text) ask h ≡ true
      → a ≡ first_ask ask h → l % 4 ≡ last_ask ask h → l < 2 ^ 16 → Scanned ws pairs text ask x (Ok (Node n a l))
  not_sound : ((h : Head) (n : ℕ) → x ≡ got h n → head_sound ws (name_bytes pairs text) ask h ≡ false) → Scanned ws pairs text ask x (Ok NotSound)
  none : {r : Refusal} → x ≡ stop r → Scanned ws pairs text ask x (Err r)

-- a head with types behind it that is neither a wrapper nor an intersection, by what its types are asked where it is judged
abbrev pub node_scan : ℕ → ℕ → ℕ → ℕ → OwnScan
node_scan next ask first rest = pick (eqb ask 0) (Node next 0 (rest / 4 * 4)) (pick (eqb ask 2) NotSound (Node next first rest))

-- an intersection, the same where no type is left out
abbrev pub both_scan : ℕ → ℕ → OwnScan
both_scan next ask = pick (eqb ask 3) NotSound (node_scan next ask 3 5)

-- a type with arguments that has none
abbrev pub bare_scan : ℕ → ℕ → OwnScan
bare_scan next ask = pick (eqb ask 0) (Node next 0 0) NotSound

-- a leaf that is neither a name nor a path
abbrev pub leaf_scan : ℕ → ℕ → OwnScan
leaf_scan next ask = pick (eqb ask 2) NotSound (Leaf next)

-- a path with no names
abbrev pub root_scan : ℕ → ℕ → ℕ → OwnScan
root_scan root next ask = pick (eqb root 0) (pick (eqb ask 0) (Leaf next) NotSound) (Leaf next)

-- ---- what is left to a pass

-- what is left behind a type, from whether all was as asked up to there: the levels, the innermost first, which may go d types deep.
-- Each is kept as four times the number of its types, plus what the last of them is asked.
unfoldable pub levels_at : (ℕ → ℕ → Reading (Ty Bytes)) → ℕ → List ℕ → ℕ → Bool → Reading Bool
levels_at f d [] p s = got s p
levels_at f d (l ∷ ls) p s = read_types (f d) (l / 4) p >>= λ ts q. levels_at f (suc d) ls q (s and sound_rest (l % 4) ts)

-- what is left where a type stands that is asked `ask`
unfoldable pub rest_at : (ℕ → ℕ → Reading (Ty Bytes)) → ℕ → ℕ → List ℕ → ℕ → Reading Bool
rest_at f d ask ls p = f d p >>= λ t q. levels_at f d ls q (sound_as ask t)

-- the levels of a pass, the innermost first
abbrev pub levels_of : List ℕ → Pass → List ℕ
levels_of levels p = p.rest ∷ stacked levels p.depth

unfoldable pub rest_of : List ℕ → List ℕ → Bytes → List ℕ → Pass → Reading Bool
rest_of ws pairs text levels p =
    rest_at (read_type (name_count pairs) ws (name_bytes pairs text)) (max_depth - p.depth) p.ask (levels_of levels p) p.place

-- what is left behind a sound type that ends at n
unfoldable pub behind_of : List ℕ → List ℕ → Bytes → List ℕ → Pass → ℕ → Reading Bool
behind_of ws pairs text levels p n =
    levels_at (read_type (name_count pairs) ws (name_bytes pairs text)) (max_depth - p.depth) (levels_of levels p) n true

-- what the next type of a level is asked, if `rest` is the level behind it
abbrev pub ask_next : ℕ → ℕ
ask_next rest = pick (ltb rest 4) rest (rest % 2)

-- the pass behind the innermost level: the one around it is taken up
abbrev pub leaving : List ℕ → Pass → Pass
leaving levels p = record {
  place = p.place;
  depth = p.depth - 1;
  ask = p.ask;
  rest = get_or levels (p.depth - 1) 0;
}

-- the pass at the next type of its level, which stands at `next`
abbrev pub next_type : Pass → ℕ → Pass
next_type p next = record {
  place = next;
  depth = p.depth;
  ask = ask_next (p.rest - 4);
  rest = p.rest - 4;
}

-- the pass behind a head that ends at `next`, one level down
abbrev pub under : Pass → ℕ → ℕ → ℕ → Pass
under p next ask rest = record {
  place = next;
  depth = p.depth + 1;
  ask = ask;
  rest = rest;
}

-- the levels behind such a head
abbrev pub pushed : List ℕ → Pass → List ℕ
pushed levels p = set levels p.depth p.rest

-- the pass is further out, and the same is left behind its type
pub record Outward (levels : List ℕ) (p p' : Pass) : Type 0 where
  pub depth : p'.depth ≤ p.depth
  pub rest : p'.rest < 2 ^ 16
  pub behind : (ws pairs : List ℕ) (text : Bytes) (n : ℕ) → behind_of ws pairs text levels p' n ≡ behind_of ws pairs text levels p n

-- what holds of a pass at each step
pub record Kept (ws levels : List ℕ) (p : Pass) : Type 0 where
  pub room : length levels ≡ max_depth
  pub place : p.place ≤ length ws
  pub depth : p.depth ≤ max_depth
  pub rest : p.rest < 2 ^ 16

-- the pass goes on, and the same is left to it with fewer words; or it has found all sound to the end; or something is not sound; or it is refused
pub data Stepped (ws pairs : List ℕ) (text : Bytes) (levels : List ℕ) (p : Pass) (levels' : List ℕ) : Result Step Refusal → Type 0 where
  on : {p' : Pass} → Kept ws levels' p' → rest_of ws pairs text levels' p' ≡ rest_of ws pairs text levels p → p.place < p'.place
      → Stepped ws pairs text levels p levels' (Ok (On p'))
  ended : {n : ℕ} → rest_of ws pairs text levels p ≡ got true n → Stepped ws pairs text levels p levels' (Ok (Ended n))
  unfit : ((n : ℕ) → rest_of ws pairs text levels p ≡ got true n → ⊥) → Stepped ws pairs text levels p levels' (Ok Unfit)
  halt : {r : Refusal} → rest_of ws pairs text levels p ≡ stop r → Stepped ws pairs text levels p levels' (Err r)
