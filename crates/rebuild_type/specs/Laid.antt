-- Words laid down in a buffer up to a limit.
use Rattle.std.specs.Prelude.{Ok, Err, Some, None, Option, ℕ, ◌+◌, ◌-◌, ◌*◌, ◌≤◌, ◌<◌, ◌≡◌, List, [], ◌∷◌, ◌++◌, length, get_or, take, drop}
use Rattle.rast.specs.Bytes.{Bytes}
use Rattle.rast.specs.Tree.{Ty, Tys}
use Rattle.encoding.specs.Refusals.{Answer}
use Rattle.encoding.specs.Reading.{Reading, got}
use Rattle.encoding.specs.HeadWords.{types_below, own_end}
use Rattle.encoding.specs.Types.{read_types}
use Rattle.tree_words.specs.Numbered.{tree_at}
use Rattle.tree_words.specs.Encode.{encode}
use Rattle.tree_words.specs.Tokens.{encode_all}
use Rattle.rebuild_spec.specs.Replace.{Replace, Replaces}
use Rattle.rebuild_spec.specs.Laying.{depth, deepest, peak, peaks}
use Rattle.rebuild_spec.specs.Rules.{Rule, rules_of, mapping_of}
use Rattle.rebuild_rules.specs.Table.{EntriesFit, Links, Tabled, to_words}
use Rattle.rebuild_rules.specs.Scans.{depth_of}

-- what lies below p stays, and b follows it; above that anything may lie
pub record Grown (o : List ℕ) (p : ℕ) (b : List ℕ) (o' : List ℕ) (p' : ℕ) : Type 0 where
  pub kept : length o' ≡ length o
  pub next : p' ≡ p + length b
  pub room : p' ≤ length o
  pub front : take p' o' ≡ take p o ++ b

-- b was laid down from p on, or it would pass the limit
pub data Lays (limit : ℕ) (o : List ℕ) (p : ℕ) (b : List ℕ) (o' : List ℕ) : Option ℕ → Type 0 where
  laid : {q : ℕ} → q ≤ limit → Grown o p b o' q → Lays limit o p b o' (Some q)
  over : limit < p + length b → length o' ≡ length o → Lays limit o p b o' None

-- the to of rule i was laid down from `start` on, or it would pass the limit
pub data GivesTo (rules pairs table : List ℕ) (i limit : ℕ) (o : List ℕ) (start : ℕ) (o' : List ℕ) : Option (ℕ × ℕ) → Type 0 where
  given : {q d : ℕ} → q ≤ limit → Grown o start (to_words rules table i) o' q → d ≡ depth_of (tree_at rules pairs (get_or table (4 * i + 1) 0)) → GivesTo rules pairs table i limit o start o' (Some (q, d))
  too_long : limit < start + length (to_words rules table i) → length o' ≡ length o → GivesTo rules pairs table i limit o start o' None

-- a finished type between `start` and `end`, `deep` deep, stays or gives way to the to of the rule that was found
pub data Settles (rules pairs table : List ℕ) (found : Option ℕ) (limit : ℕ) (o : List ℕ) (start end deep : ℕ) (o' : List ℕ) : Option (ℕ × ℕ) → Type 0 where
  stays : found ≡ None → o' ≡ o → Settles rules pairs table found limit o start end deep o' (Some (end, deep))
  gives : {i : ℕ} {r : Option (ℕ × ℕ)} → found ≡ Some i → GivesTo rules pairs table i limit o start o' r → Settles rules pairs table found limit o start end deep o' r

-- what was read was rebuilt: `code` are its rebuilt words, `top` the most that lay there on the way, `deep` how deep it is; or more than the limit would lie there
pub data Rebuilds {A : Type 0} (code : A → List ℕ) (top deep : A → ℕ) (limit : ℕ) (o : List ℕ) (p : ℕ) (x : Reading A) (o' : List ℕ) : Option (ℕ × ℕ × ℕ) → Type 0 where
  rebuilt : {a : A} {n q d : ℕ} → x ≡ got a n → p + top a ≤ limit → q ≤ limit → Grown o p (code a) o' q → d ≡ deep a → Rebuilds code top deep limit o p x o' (Some (n, q, d))
  full : {a : A} {n : ℕ} → x ≡ got a n → limit < p + top a → length o' ≡ length o → Rebuilds code top deep limit o p x o' None

-- the rules that a list holds, none if it is refused
unfoldable pub rule_list : Answer (List Rule) → List Rule
rule_list (Ok rs) = rs
rule_list (Err r) = []

-- the mapping that they stand for
unfoldable pub mapping : List ℕ → List ℕ → Bytes → Ty ℕ → Ty ℕ
mapping rules pairs text = mapping_of pairs text (rule_list (rules_of rules pairs text))

-- the table holds them
pub record Ruled (rules pairs : List ℕ) (text : Bytes) (table : List ℕ) (k : ℕ) : Type 0 where
  pub tabled : Tabled rules pairs table 0 (rule_list (rules_of rules pairs text))
  pub many : length (rule_list (rules_of rules pairs text)) ≡ k
  pub fits : EntriesFit rules table k
  pub links : Links rules table 0 k

-- a type, rebuilt; some types, rebuilt one after the other
abbrev pub TypeRebuilds : (Ty ℕ → Ty ℕ) → ℕ → List ℕ → ℕ → Reading (Ty ℕ) → List ℕ → Option (ℕ × ℕ × ℕ) → Type 0
TypeRebuilds m limit o p x o' r = Rebuilds (λ t. encode (Replace m t)) (λ t. peak m t) (λ t. depth (Replace m t)) limit o p x o' r

abbrev pub TypesRebuild : (Ty ℕ → Ty ℕ) → ℕ → List ℕ → ℕ → Reading (Tys ℕ) → List ℕ → Option (ℕ × ℕ × ℕ) → Type 0
TypesRebuild m limit o p x o' r = Rebuilds (λ ts. encode_all (Replaces m ts)) (λ ts. peaks m ts) (λ ts. deepest (Replaces m ts)) limit o p x o' r

-- one word, as it is
abbrev pub WordRebuilds : ℕ → List ℕ → ℕ → Reading ℕ → List ℕ → Option (ℕ × ℕ × ℕ) → Type 0
WordRebuilds limit o p x o' r = Rebuilds (λ w. w ∷ []) (λ w. 1) (λ w. 0) limit o p x o' r

-- the type at `at` before the rules: its own words were laid down, and the types below it were rebuilt behind them; or the own words alone would pass the limit
pub data PartsRebuild (m : Ty ℕ → Ty ℕ) (ws pairs : List ℕ) (at limit : ℕ) (o : List ℕ) (p : ℕ) (o' : List ℕ) : Option (ℕ × ℕ × ℕ) → Type 0 where
  parts : {o₁ : List ℕ} {p₁ : ℕ} {r : Option (ℕ × ℕ × ℕ)} → Grown o p (take (own_end ws at - at) (drop at ws)) o₁ p₁
      → TypesRebuild m limit o₁ p₁ (read_types (tree_at ws pairs) (types_below ws at) (own_end ws at)) o' r → PartsRebuild m ws pairs at limit o p o' r
  no_parts : limit < p + length (take (own_end ws at - at) (drop at ws)) → length o' ≡ length o → PartsRebuild m ws pairs at limit o p o' None
