-- What the code's answers on the way say of the readings that they stand for.
use Rattle.std.specs.Prelude.{Ok, Err, Result, ℕ, ◌≤◌, ◌≡◌, List, length}
use Rattle.rast.specs.Bytes.{Bytes}
use Rattle.rast.specs.Tree.{Ty, Tys}
use Rattle.encoding.specs.declared.Refusal.{Refusal}
use Rattle.encoding.specs.Reading.{Reading, got, stop}
use Rattle.encoding.specs.Declarations.{read_list}
use Rattle.tree_words.specs.Numbered.{tree_at}
use Rattle.rebuild_spec.specs.Laying.{depth, deepest}
use Rattle.rebuild_spec.specs.Rules.{Rule, read_rule, rules_of}
use Rattle.rebuild_rules.specs.declared.Deep.{Deep}
use Rattle.rebuild_rules.specs.Table.{EntriesFit, Links, Unlinked, Tabled}

-- where the types that were read end, and how deep the deepest is
pub record Deepens (x : Reading (Tys ℕ)) (size : ℕ) (r : Deep) : Type 0 where
  pub types : Tys ℕ
  pub reads : x ≡ got types r.next
  pub depth : r.depth ≡ deepest types
  pub small : r.depth ≤ size

-- a tree was read, up to `end`
pub record SpansTo (x : Reading (Ty ℕ)) (end : ℕ) : Type 0 where
  pub tree : Ty ℕ
  pub reads : x ≡ got tree end

-- how deep a tree that was read is
unfoldable pub depth_of : Reading (Ty ℕ) → ℕ
depth_of (got t n) = depth t
depth_of (stop k) = 0

-- one rule
pub data RuleRead (rules pairs : List ℕ) (at : ℕ) : Result (ℕ × ℕ) Refusal → Type 0 where
  rule : {from to : Ty ℕ} {m n : ℕ} → tree_at rules pairs at ≡ got from m → tree_at rules pairs m ≡ got to n → RuleRead rules pairs at (Ok (m, n))
  none : {k : Refusal} → read_rule (tree_at rules pairs) at ≡ stop k → RuleRead rules pairs at (Err k)

-- some rules, entered in a table
pub data Listed (rules pairs : List ℕ) (n at : ℕ) (table : List ℕ) : Result ℕ Refusal → Type 0 where
  listed : {rs : List Rule} {m : ℕ} → read_list (read_rule (tree_at rules pairs)) n at ≡ got rs m → Tabled rules pairs table 0 rs → length rs ≡ n → Unlinked table → Listed rules pairs n at table (Ok m)
  unlisted : {k : Refusal} → read_list (read_rule (tree_at rules pairs)) n at ≡ stop k → Listed rules pairs n at table (Err k)

-- the rules of a list
pub data RulesRead (rules pairs : List ℕ) (text : Bytes) (table : List ℕ) : Result ℕ Refusal → Type 0 where
  read : {rs : List Rule} → rules_of rules pairs text ≡ Ok rs → Tabled rules pairs table 0 rs → EntriesFit rules table (length rs) → Links rules table 0 (length rs) → RulesRead rules pairs text table (Ok (length rs))
  unread : {k : Refusal} → rules_of rules pairs text ≡ Err k → RulesRead rules pairs text table (Err k)
