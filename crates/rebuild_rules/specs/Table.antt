-- Rules found by a table: of rule i the entries from 4 i on say where its from begins, and where its to begins and ends. Rules whose froms begin with the same word
-- are linked: the entry of that word, from 128 on, says which rule comes first, the last entry of a rule which comes after it. Rule i is said by i + 1, none by 0.
use Rattle.std.specs.Prelude.{Some, None, Option, ℕ, zero, suc, ◌+◌, ◌-◌, ◌*◌, ◌≤◌, ◌<◌, ◌≡◌, Bool, true, false, List, [], ◌∷◌, eqb, ltb, length, get_or, set, take, drop}
use Rattle.std.specs.Option.{is_some}
use Rattle.rast.specs.Bytes.{Bytes, ◌or◌}
use Rattle.encoding.specs.Words.{max_rules}
use Rattle.encoding.specs.Refusals.{pick}
use Rattle.encoding.specs.Reading.{got}
use Rattle.tree_words.specs.Numbered.{tree_at}
use Rattle.tree_words.specs.Encode.{encode}
use Rattle.tree_words.specs.Runs.{Run}
use Rattle.rebuild_spec.specs.Rules.{Rule}
use Rattle.same_type.specs.declared.Due.TheVariants.{Kind}
use Rattle.same_type.specs.Runs.{same_runs}

-- the table with one rule more
unfoldable pub entered : List ℕ → ℕ → ℕ → ℕ → ℕ → List ℕ
entered table i from to end = set (set (set table (4 * i) from) (4 * i + 1) to) (4 * i + 2) end

-- where the entry of a word is; those that no type begins with share one
unfoldable pub slot : ℕ → ℕ
slot w = pick (ltb w 32) (128 + w) 159

-- the table where rule i comes first among those of the slot s
unfoldable pub linked : List ℕ → ℕ → ℕ → List ℕ
linked table i s = set (set table (4 * i + 3) (get_or table s 0)) s (i + 1)

-- the words of a rule's from, and of its to
unfoldable pub from_words : List ℕ → List ℕ → ℕ → List ℕ
from_words rules table i = take (get_or table (4 * i + 1) 0 - get_or table (4 * i) 0) (drop (get_or table (4 * i) 0) rules)

unfoldable pub to_words : List ℕ → List ℕ → ℕ → List ℕ
to_words rules table i = take (get_or table (4 * i + 2) 0 - get_or table (4 * i + 1) 0) (drop (get_or table (4 * i + 1) 0) rules)

-- the slot of a rule
unfoldable pub slot_of : List ℕ → List ℕ → ℕ → ℕ
slot_of rules table i = slot (get_or rules (get_or table (4 * i) 0) 0)

-- the first of n rules from the i-th on that has the slot s
unfoldable pub next_rule : List ℕ → List ℕ → ℕ → ℕ → ℕ → ℕ
next_rule rules table s i zero = 0
next_rule rules table s i (suc n) = pick (eqb (slot_of rules table i) s) (i + 1) (next_rule rules table s (i + 1) n)

-- the first of n rules from the i-th on that passes a test
unfoldable pub first_of : (ℕ → Bool) → ℕ → ℕ → Option ℕ
first_of test i zero = None
first_of test i (suc n) = pick (test i) (Some i) (first_of test (i + 1) n)

-- the first of k rules that passes it, from a link on
unfoldable pub first_along : (ℕ → Bool) → ℕ → ℕ → Option ℕ
first_along test k zero = None
first_along test k (suc i) = first_of test i (k - i)

module _ (name : ℕ → Bytes) (rules table : List ℕ) where
  -- whether b is the from of rule i, the first of n rules from the i-th on of which that is true, and whether there is one
  unfoldable pub is_from : List ℕ → ℕ → Bool
  is_from b i = same_runs name Kind b (from_words rules table i)

  unfoldable pub found_from : ℕ → ℕ → List ℕ → Option ℕ
  found_from i n b = first_of (is_from b) i n

  unfoldable pub among_from : ℕ → ℕ → List ℕ → Bool
  among_from i n b = is_some (found_from i n b)

  -- whether two of n rules from the i-th on have the same from
  unfoldable pub repeated_from : ℕ → ℕ → Bool
  repeated_from i zero = false
  repeated_from i (suc n) = among_from (i + 1) n (from_words rules table i) or repeated_from (i + 1) n

  -- whether the from of rule i stands at the front of ws, that of one of n rules from the i-th on, and that none of k rules stands anywhere in ws
  unfoldable pub stands : List ℕ → ℕ → Bool
  stands ws i = same_runs name Kind (take (length (from_words rules table i)) ws) (from_words rules table i)

  unfoldable pub some_stands : ℕ → ℕ → List ℕ → Bool
  some_stands i n ws = is_some (first_of (stands ws) i n)

  unfoldable pub none_stands : ℕ → List ℕ → Bool
  none_stands k [] = true
  none_stands k (w ∷ ws) = pick (some_stands 0 k (w ∷ ws)) false (none_stands k ws)

-- the entries of k rules lie within the rules' words
pub record EntriesFit (rules table : List ℕ) (k : ℕ) : Type 0 where
  pub few : k ≤ max_rules
  pub size : length table ≡ 160
  pub from : (i : ℕ) → i < k → get_or table (4 * i) 0 < get_or table (4 * i + 1) 0
  pub to : (i : ℕ) → i < k → get_or table (4 * i + 1) 0 ≤ get_or table (4 * i + 2) 0
  pub inside : (i : ℕ) → i < k → get_or table (4 * i + 2) 0 ≤ length rules

-- the rules from the i-th of k on are linked
pub record Links (rules table : List ℕ) (i k : ℕ) : Type 0 where
  pub first : (s : ℕ) → 128 ≤ s → s < 160 → get_or table s 0 ≡ next_rule rules table s i (k - i)
  pub next : (j : ℕ) → i ≤ j → j < k → get_or table (4 * j + 3) 0 ≡ next_rule rules table (slot_of rules table j) (j + 1) (k - (j + 1))

-- a link from which the rules of the slot s are gone through
pub record AlongLinks (rules table : List ℕ) (k s link : ℕ) : Type 0 where
  pub within : (i : ℕ) → link ≡ suc i → i < k
  pub slots : (i : ℕ) → link ≡ suc i → slot_of rules table i ≡ s

-- a table without links
pub record Unlinked (table : List ℕ) : Type 0 where
  pub size : length table ≡ 160
  pub none : (s : ℕ) → 128 ≤ s → s < 160 → get_or table s 0 ≡ 0

-- what the entries of a rule say of it is the same in two tables
pub record TableEntries (table table' : List ℕ) : Type 0 where
  pub size : length table' ≡ length table
  pub from : (i : ℕ) → i < max_rules → get_or table' (4 * i) 0 ≡ get_or table (4 * i) 0
  pub to : (i : ℕ) → i < max_rules → get_or table' (4 * i + 1) 0 ≡ get_or table (4 * i + 1) 0
  pub end : (i : ℕ) → i < max_rules → get_or table' (4 * i + 2) 0 ≡ get_or table (4 * i + 2) 0

-- the entry of rule i is that of r
pub record RuleAt (rules pairs table : List ℕ) (i : ℕ) (r : Rule) : Type 0 where
  pub from : Run rules (get_or table (4 * i) 0) (encode r.0)
  pub middle : get_or table (4 * i + 1) 0 ≡ get_or table (4 * i) 0 + length (encode r.0)
  pub to : Run rules (get_or table (4 * i + 1) 0) (encode r.1)
  pub end : get_or table (4 * i + 2) 0 ≡ get_or table (4 * i + 1) 0 + length (encode r.1)
  pub reads : tree_at rules pairs (get_or table (4 * i + 1) 0) ≡ got r.1 (get_or table (4 * i + 2) 0)

-- the entries from rule i on are those of some rules
abbrev pub Tabled : List ℕ → List ℕ → List ℕ → ℕ → List Rule → Type 0
Tabled rules pairs table i [] = Unit {0}
Tabled rules pairs table i (r ∷ rs) = RuleAt rules pairs table i r × Tabled rules pairs table (i + 1) rs

-- a search along the links, from one on: a rule that passes is found, one that does not leads to the link behind it
pub data FoundAlong (passes : ℕ → Bool → Type 0) (table : List ℕ) : ℕ → Option ℕ → Type 0 where
  nowhere : FoundAlong passes table 0 None
  here : {i : ℕ} → passes i true → FoundAlong passes table (suc i) (Some i)
  behind : {i : ℕ} {r : Option ℕ} → passes i false → FoundAlong passes table (get_or table (4 * i + 3) 0) r → FoundAlong passes table (suc i) r
