-- Laws of reading a list of rules into a table.
use Rattle.std.specs.Prelude.{Ok, Err, Result}
use Prim.Native.Nat.{ℕ, suc, ◌+◌, ◌-◌, ◌≤◌, ◌<◌}
use mathlib.Core.Path.{◌≡◌, refl, ap, sym, ◌∙◌, subst}
use mathlib.Core.Bool.{Bool, true, false}
use mathlib.Core.List.{List, [], ◌∷◌, ◌++◌, append_assoc, append-nil}
use native.Mathlib.Omega.{arith}
use native.Mathlib.Decide.{dec_lt}
use borrow.Author.Tests.{eq-eqb, ne_eqb, lt-ltb, le-ltb}
use lib.ListN.{length, length-append}
use Rattle.rast.specs.Bytes.{Bytes, ◌or◌}
use Rattle.rast.specs.Tree.{Ty, nil, cons}
use Rattle.encoding.specs.declared.Refusal.{Refusal}
use Rattle.encoding.specs.declared.Refusal.TheVariants.{Overlong, BadPair, LeftOver, RepeatedRule}
use Rattle.encoding.specs.Refusals.{pick}
use Rattle.encoding.specs.Reading.{Reading, got, stop, ◌>>=◌, read_below, whole}
use Rattle.encoding.specs.Tables.{overlong, good_pairs, check_tables, name_bytes}
use Rattle.encoding.specs.Tested.{Good}
use Rattle.encoding.specs.Types.{read_types, type_at}
use Rattle.encoding.specs.Declarations.{read_list}
use Rattle.encoding.proofs.Tables.{impossible, tables-passed}
use Rattle.encoding.specs.Scans.{ended, map_reading}
use Rattle.encoding.proofs.Reading.{scan-got, scan-stop}
use Rattle.tree_words.specs.Renamed.{renamed}
use Rattle.tree_words.specs.Numbered.{tree_at}
use Rattle.tree_words.specs.Encode.{encode}
use Rattle.tree_words.proofs.Heads.{tree-below, tree-words}
use Rattle.tree_words.proofs.Renaming.{spelled, numbered, tree-run, encode-words}
use Rattle.accepted_types.specs.Accepted.{Readable}
use Rattle.rebuild_spec.specs.Same.{same_by}
use Rattle.rebuild_spec.specs.Laying.{depth, deepest}
use Rattle.rebuild_spec.proofs.Nodes.{depth-node, depth-words}
use Rattle.rebuild_spec.specs.Rules.{Rule, read_rule, read_rules, repeated, distinct, check_all, rules_of}
use Rattle.rebuild_rules.specs.declared.Deep.{Deep}
use Rattle.rebuild_rules.specs.Table.{entered, repeated_from, EntriesFit, Links, Unlinked, TableEntries, RuleAt, Tabled}
use Rattle.rebuild_rules.specs.Scans.{Deepens, SpansTo, depth_of, RuleRead, rule, none, Listed, listed, unlisted, RulesRead, read, unread}
use Rattle.rebuild_rules.proofs.Tables.{tabled-kept, tabled-more, same-tabled, rule-entered, still-unlinked, tabled-fits, repeated-trees}
use Rattle.rebuild_rules.proofs.Steps.{counted}

-- ---- from the acceptance of a type to its tree

pub accepted-tree : (ws pairs : List ℕ) (text : Bytes) (at : ℕ) {r : Result ℕ Refusal} {n : ℕ} → r ≡ ended (type_at ws pairs text at) → r ≡ Ok n → (t : Ty ℕ) × (tree_at ws pairs at ≡ got t n)
accepted-tree ws pairs text at e d = let u = numbered ws pairs text at (scan-got (type_at ws pairs text at) e d).reads in (u.tree, u.reads)

pub accepted-no-tree : (ws pairs : List ℕ) (text : Bytes) (at : ℕ) {r : Result ℕ Refusal} {k : Refusal} → r ≡ ended (type_at ws pairs text at) → r ≡ Err k → tree_at ws pairs at ≡ stop k
unfolding map_reading
accepted-no-tree ws pairs text at {r} {k} e d = go (tree_at ws pairs at) (sym (spelled ws pairs text at) ∙ scan-stop (type_at ws pairs text at) e d)
  where
    go : (x : Reading (Ty ℕ)) → map_reading (renamed (name_bytes pairs text)) x ≡ stop k → x ≡ stop k
    go (got t m) g = impossible (cc)
    go (stop q) g = cc

-- ---- one rule

pub one_type : (ws pairs : List ℕ) (at : ℕ) {t : Ty ℕ} {n : ℕ} → tree_at ws pairs at ≡ got t n → Readable (read_types (tree_at ws pairs) 1 at)
unfolding read_types
one_type ws pairs at {t} {n} e = record { value = cons t nil; end = n; reads = rw e refl }

pub one-deep : (ws pairs : List ℕ) (at : ℕ) {t : Ty ℕ} {n size : ℕ} (r : Deep) → tree_at ws pairs at ≡ got t n → Deepens (read_types (tree_at ws pairs) 1 at) size r → r.depth ≡ depth t
unfolding read_types deepest
one-deep ws pairs at {t} {n} r e d =
    let k : got (cons t nil) n ≡ got d.types r.next = rw e at d.reads in
    let i : cons t nil ≡ d.types = cc in
    let s : r.depth ≡ deepest (cons t nil) = d.depth ∙ ap deepest (sym i) in
    omega (arith, s)

-- a type of one word is one deep
pub leaf-depth : (ws pairs : List ℕ) (at : ℕ) {count : ℕ} → at ≤ length ws → count ≡ 1 → SpansTo (tree_at ws pairs at) (at + count) → depth_of (tree_at ws pairs at) ≡ 1
unfolding depth_of
leaf-depth ws pairs at h z x =
    let w = tree-run ws pairs at h x.reads in
    let b = tree-below ws pairs at x.reads (tree-words ws pairs at x.reads).reads in
    let d : depth x.tree ≡ 1 = omega (arith, z, w.1, depth-words x.tree, depth-node b.node) in
    rw x.reads d

pub tree-depth : (ws pairs : List ℕ) (at : ℕ) {end size : ℕ} (r : Deep) → SpansTo (tree_at ws pairs at) end → Deepens (read_types (tree_at ws pairs) 1 at) size r → r.depth ≡ depth_of (tree_at ws pairs at)
unfolding depth_of
tree-depth ws pairs at r x d = rw x.reads (one-deep ws pairs at r x.reads d)

rule-got : (f : ℕ → Reading (Ty ℕ)) (at : ℕ) {from to : Ty ℕ} {m n : ℕ} → f at ≡ got from m → f m ≡ got to n → read_rule f at ≡ got (from, to) n
unfolding read_rule
rule-got f at e d = rw (e, d) refl

pub from-stops : (f : ℕ → Reading (Ty ℕ)) (at : ℕ) {k : Refusal} → f at ≡ stop k → read_rule f at ≡ stop k
unfolding read_rule
from-stops f at e = rw e refl

pub to-stops : (f : ℕ → Reading (Ty ℕ)) (at : ℕ) {from : Ty ℕ} {m : ℕ} {k : Refusal} → f at ≡ got from m → f m ≡ stop k → read_rule f at ≡ stop k
unfolding read_rule
to-stops f at e d = rw (e, d) refl

-- ---- a list of rules

module _ (rules pairs : List ℕ) (n at : ℕ) where
  abbrev item : ℕ → Reading Rule
  item = read_rule (tree_at rules pairs)

  -- i rules were read, up to `place`, and entered
  pub record Filling (table : List ℕ) (place i : ℕ) : Type 0 where
    pub done : List Rule
    pub tabled : Tabled rules pairs table 0 done
    pub many : length done ≡ i
    pub rest : read_list item n at ≡ map_reading (λ rs. done ++ rs) (read_list item (n - i) place)
    pub unlinked : Unlinked table
    pub inside : place ≤ length rules
    pub within : i ≤ n

  map-none : (x : Reading (List Rule)) → map_reading (λ rs. [] ++ rs) x ≡ x
  unfolding map_reading
  map-none (got rs m) = refl
  map-none (stop k) = refl

  pub filling-starts : (table : List ℕ) → Unlinked table → at ≤ length rules → Filling table at 0
  filling-starts table l h = let z : n - 0 ≡ n = omega arith in record {
    done = [];
    tabled = tt;
    many = refl;
    rest = rw z (sym (map-none (read_list item n at)));
    unlinked = l;
    inside = h;
    within = omega arith;
  }

  pub filling-stops : {table table' : List ℕ} {place i : ℕ} {k : Refusal} → i < n → Filling table place i → item place ≡ stop k → Listed rules pairs n at table' (Err k)
  unfolding read_list map_reading
  filling-stops {place = place} {i = i} {k = k} h f e = let d : read_list item n at ≡ stop k = f.rest ∙ rw (counted i n h, e) refl in unlisted d

  step : (done : List Rule) (place m k : ℕ) (r : Rule) → item place ≡ got r m → map_reading (λ rs. done ++ rs) (read_list item (suc k) place) ≡ map_reading (λ rs. (done ++ (r ∷ [])) ++ rs) (read_list item k m)
  unfolding read_list map_reading
  step done place m k r e = rw e (go (read_list item k m))
    where
      go : (x : Reading (List Rule)) → map_reading (λ rs. done ++ rs) (x >>= λ rs q. got (r ∷ rs) q) ≡ map_reading (λ rs. (done ++ (r ∷ [])) ++ rs) x
      go (got rs q) = ap (λ l. got l q) (sym (append_assoc done (r ∷ []) rs))
      go (stop k) = refl

  pub filling-more : {table : List ℕ} {place i m q : ℕ} → i < n → n ≤ 32 → Filling table place i → RuleRead rules pairs place (Ok (m, q)) → Filling (entered table i place m q) q (i + 1)
  filling-more {table} {place} {i} {m} {q} h few f (rule {from = from} {to = to} a b) =
      let w = tree-run rules pairs place f.inside a in
      let hm : m ≤ length rules = omega (arith, w.1, w.0.ends, encode-words from) in
      let v = tree-run rules pairs m hm b in
      let e₁ : m ≡ place + length (encode from) = omega (arith, w.1, encode-words from) in
      let e₂ : q ≡ m + length (encode to) = omega (arith, v.1, encode-words to) in
      let few : i < 32 = omega arith in
      let at_i = rule-entered rules pairs table i place m q (from, to) f.unlinked.size few w.0 e₁ v.0 e₂ b in
      let z : i ≡ 0 + length f.done = omega (arith, f.many) in
      record {
        done = f.done ++ ((from, to) ∷ []);
        tabled = tabled-more rules pairs (entered table i place m q) 0 f.done (tabled-kept rules pairs table i place m q 0 f.done (omega (arith, f.many)) f.tabled) (subst (λ j. RuleAt rules pairs (entered table i place m q) j (from, to)) z at_i);
        many = omega (arith, f.many, length-append f.done ((from, to) ∷ []));
        rest = f.rest ∙ rw (counted i n h) (step f.done place q (n - (i + 1)) (from, to) (rule-got (tree_at rules pairs) place a b));
        unlinked = still-unlinked table i place m q few f.unlinked;
        inside = omega (arith, e₂, v.0.ends);
        within = omega arith;
      }

  pub filling-ends : {table : List ℕ} {place i : ℕ} → n ≤ i → Filling table place i → Listed rules pairs n at table (Ok place)
  unfolding read_list map_reading
  filling-ends {table} {place} {i} h f =
      let z : n - i ≡ 0 = omega arith in
      let y : i ≡ n = omega (arith, f.within) in
      let d : read_list item n at ≡ got f.done place = f.rest ∙ rw (z, append-nil f.done) refl in
      listed d f.tabled (f.many ∙ y) f.unlinked

-- ---- the whole list

pub listed-got : {rules pairs table : List ℕ} {n at m : ℕ} {r : Result ℕ Refusal} → Listed rules pairs n at table r → r ≡ Ok m
    → (rs : List Rule) × (read_list (read_rule (tree_at rules pairs)) n at ≡ got rs m) × Tabled rules pairs table 0 rs × (length rs ≡ n) × Unlinked table
listed-got {rules} {pairs} {table} {n} {at} {m} l e = go (subst (Listed rules pairs n at table) e l)
  where
    go : Listed rules pairs n at table (Ok m) → (rs : List Rule) × (read_list (read_rule (tree_at rules pairs)) n at ≡ got rs m) × Tabled rules pairs table 0 rs × (length rs ≡ n) × Unlinked table
    go (listed {rs = rs} a b c d) = (rs, a, b, c, d)

pub listed-stop : {rules pairs table : List ℕ} {n at : ℕ} {r : Result ℕ Refusal} {k : Refusal} → Listed rules pairs n at table r → r ≡ Err k → read_list (read_rule (tree_at rules pairs)) n at ≡ stop k
listed-stop {rules} {pairs} {table} {n} {at} {k = k} l e = go (subst (Listed rules pairs n at table) e l)
  where
    go : Listed rules pairs n at table (Err k) → read_list (read_rule (tree_at rules pairs)) n at ≡ stop k
    go (unlisted a) = a

module _ (rules pairs : List ℕ) (text : Bytes) {k p : ℕ} (b : read_below 33 rules 0 ≡ got k p) where
  pub rules-stop : {q : Refusal} → read_list (read_rule (tree_at rules pairs)) k p ≡ stop q → rules_of rules pairs text ≡ Err q
  unfolding rules_of read_rules whole distinct
  rules-stop e = rw (b, e) refl

  pub rules-over : {rs : List Rule} {m : ℕ} → read_list (read_rule (tree_at rules pairs)) k p ≡ got rs m → (m ≡ length rules → ⊥) → rules_of rules pairs text ≡ Err LeftOver
  unfolding rules_of read_rules whole distinct
  rules-over {m = m} e d = rw (b, e, ne_eqb m (length rules) d) refl

  rules-whole : {rs : List Rule} {m : ℕ} → read_list (read_rule (tree_at rules pairs)) k p ≡ got rs m → m ≡ length rules
      → rules_of rules pairs text ≡ pick (repeated (same_by (name_bytes pairs text)) rs) (Err RepeatedRule) (Ok rs)
  unfolding rules_of read_rules whole distinct
  rules-whole {m = m} e d = rw (b, e, eq-eqb m (length rules) d) refl

  pub rules-repeated : {rs : List Rule} {m : ℕ} (table : List ℕ) → read_list (read_rule (tree_at rules pairs)) k p ≡ got rs m → m ≡ length rules → Tabled rules pairs table 0 rs → length rs ≡ k
      → repeated_from (name_bytes pairs text) rules table 0 k ≡ true → rules_of rules pairs text ≡ Err RepeatedRule
  rules-repeated {rs = rs} table e d t c r =
      let s : repeated (same_by (name_bytes pairs text)) rs ≡ true = sym (repeated-trees (name_bytes pairs text) rules pairs table 0 rs t) ∙ rw c r in
      rules-whole e d ∙ rw s refl

  pub rules-distinct : {rs : List Rule} {m : ℕ} (table : List ℕ) → read_list (read_rule (tree_at rules pairs)) k p ≡ got rs m → m ≡ length rules → Tabled rules pairs table 0 rs → length rs ≡ k
      → repeated_from (name_bytes pairs text) rules table 0 k ≡ false → rules_of rules pairs text ≡ Ok rs
  rules-distinct {rs = rs} table e d t c r =
      let s : repeated (same_by (name_bytes pairs text)) rs ≡ false = sym (repeated-trees (name_bytes pairs text) rules pairs table 0 rs t) ∙ rw c r in
      rules-whole e d ∙ rw s refl

pub first_stops : (rules pairs : List ℕ) (text : Bytes) {q : Refusal} → read_below 33 rules 0 ≡ stop q → rules_of rules pairs text ≡ Err q
unfolding rules_of read_rules whole distinct
first_stops rules pairs text e = rw e refl

-- ---- the answers of the scan of one rule

pub rule-read : (rules pairs : List ℕ) (at : ℕ) {m n : ℕ} → (t : Ty ℕ) × (tree_at rules pairs at ≡ got t m) → (t : Ty ℕ) × (tree_at rules pairs m ≡ got t n) → RuleRead rules pairs at (Ok (m, n))
rule-read rules pairs at f t = rule f.1 t.1

pub rule-stops : {rules pairs : List ℕ} {at : ℕ} {k : Refusal} → read_rule (tree_at rules pairs) at ≡ stop k → RuleRead rules pairs at (Err k)
rule-stops e = none e

-- a rule that was read lies within the words
pub rule-inside : (rules pairs : List ℕ) (at : ℕ) {m n : ℕ} → at ≤ length rules → RuleRead rules pairs at (Ok (m, n)) → (m ≤ length rules) × (n ≤ length rules)
rule-inside rules pairs at {m} h (rule {from = f} {to = t} e d) =
    let a = tree-run rules pairs at h e in
    let i : m ≤ length rules = omega (arith, a.1, a.0.ends, encode-words f) in
    let b = tree-run rules pairs m i d in
    (i, omega (arith, b.1, b.0.ends, encode-words t))

pub rule_found : {rules pairs : List ℕ} {at m n : ℕ} {r : Result (ℕ × ℕ) Refusal} → RuleRead rules pairs at r → r ≡ Ok (m, n) → RuleRead rules pairs at (Ok (m, n))
rule_found {rules} {pairs} {at} k e = subst (RuleRead rules pairs at) e k

pub rule-stop : {rules pairs : List ℕ} {at : ℕ} {r : Result (ℕ × ℕ) Refusal} {k : Refusal} → RuleRead rules pairs at r → r ≡ Err k → read_rule (tree_at rules pairs) at ≡ stop k
rule-stop {rules} {pairs} {at} {k = k} l e = go (subst (RuleRead rules pairs at) e l)
  where
    go : RuleRead rules pairs at (Err k) → read_rule (tree_at rules pairs) at ≡ stop k
    go (none a) = a

-- ---- the answers of the scan of a list

pub rules-none : {rules pairs table : List ℕ} {text : Bytes} {k : Refusal} → rules_of rules pairs text ≡ Err k → RulesRead rules pairs text table (Err k)
rules-none e = unread e

pub rules-some : {rules pairs table : List ℕ} {text : Bytes} {rs : List Rule} {n : ℕ} → rules_of rules pairs text ≡ Ok rs → Tabled rules pairs table 0 rs → length rs ≡ n → EntriesFit rules table n → Links rules table 0 n
    → RulesRead rules pairs text table (Ok n)
rules-some {rules} {pairs} {table} {text} {rs} {n} e t c f l =
    subst (λ k. RulesRead rules pairs text table (Ok k)) c (read e t (subst (EntriesFit rules table) (sym c) f) (subst (Links rules table 0) (sym c) l))

-- linking changes no entries
pub linked-tabled : (rules pairs : List ℕ) {table table' : List ℕ} (rs : List Rule) {n : ℕ} → Tabled rules pairs table 0 rs → length rs ≡ n → n ≤ 32 → length table ≡ 160 → TableEntries table table'
    → Tabled rules pairs table' 0 rs × EntriesFit rules table' n
linked-tabled rules pairs {table} {table'} rs {n} t c h l e =
    let u = same-tabled rules pairs 0 rs (omega (arith, c, h)) e t in
    (u, tabled-fits rules pairs table' rs n c h (e.size ∙ l) u)

-- ---- the tests before reading

pub check-overlong : (words rules pairs : List ℕ) (text : Bytes) → 8192 < length rules → check_all words rules pairs text ≡ Err Overlong
unfolding check_all
check-overlong words rules pairs text h = rw (lt-ltb 8192 (length rules) h) (go (overlong words pairs text))
  where
    go : (t : Bool) → pick {A = Result (Unit {0}) Refusal} (t or true) (Err Overlong) (pick (good_pairs pairs 0 (length text)) (Ok tt) (Err BadPair)) ≡ Err Overlong
    go true = refl
    go false = refl

pub check-tables : (words rules pairs : List ℕ) (text : Bytes) → length rules ≤ 8192 → check_all words rules pairs text ≡ check_tables words pairs text
unfolding check_all check_tables
check-tables words rules pairs text h = rw (le-ltb 8192 (length rules) h) (go (overlong words pairs text))
  where
    go : (t : Bool) → pick {A = Result (Unit {0}) Refusal} (t or false) (Err Overlong) (pick (good_pairs pairs 0 (length text)) (Ok tt) (Err BadPair)) ≡ pick t (Err Overlong) (pick (good_pairs pairs 0 (length text)) (Ok tt) (Err BadPair))
    go true = refl
    go false = refl

pub all-passed : (words rules pairs : List ℕ) (text : Bytes) → check_all words rules pairs text ≡ Ok tt → Good pairs text × (length words ≤ 8192) × (length rules ≤ 8192)
all-passed words rules pairs text e = go (dec_lt 8192 (length rules))
  where
    go : Dec (8192 < length rules) → Good pairs text × (length words ≤ 8192) × (length rules ≤ 8192)
    go (yes h) = impossible (let d = check-overlong words rules pairs text h in cc)
    go (no h) = let t = tables-passed words pairs text (sym (check-tables words rules pairs text (omega arith)) ∙ e) in (t.good, t.few, omega arith)
