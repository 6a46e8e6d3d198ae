-- A table of rules and the rules' trees: entries, and what the search by words says of the trees.
use Rattle.std.specs.Option.{is_some}
use Rattle.std.specs.Prelude.{Some, None, Option}
use Prim.Native.Nat.{ℕ, zero, suc, ◌+◌, ◌-◌, ◌*◌, ◌≤◌, ◌<◌}
use mathlib.Core.Path.{◌≡◌, refl, ap, ◌∙◌}
use mathlib.Core.Bool.{Bool, true, false}
use mathlib.Core.List.{List, [], ◌∷◌, ◌++◌}
use native.Mathlib.Omega.{arith}
use native.Mathlib.Decide.{ℕ_discrete}
use lib.ListN.{length, get_or, set, replicate, length-set, length-replicate}
use lib.Seq.{get_or-set_same, get_or-set_other}
use Rattle.rast.specs.Bytes.{Bytes, ◌or◌}
use Rattle.rast.specs.Tree.{Ty}
use Rattle.encoding.specs.Refusals.{pick}
use Rattle.encoding.specs.Reading.{got}
use Rattle.tree_words.specs.Numbered.{tree_at}
use Rattle.tree_words.specs.Encode.{encode}
use Rattle.tree_words.specs.Runs.{Run}
use Rattle.tree_words.proofs.Renaming.{encode-words, words-some}
use Rattle.rebuild_spec.specs.Same.{same_by}
use Rattle.rebuild_spec.specs.Replace.{ruled}
use Rattle.rebuild_spec.specs.Rules.{Rule, among_froms, repeated}
use Rattle.same_type.specs.declared.Due.TheVariants.{Kind}
use Rattle.same_type.specs.Runs.{same_runs}
use Rattle.same_type.proofs.Trees.{same-encoded}
use Rattle.rebuild_rules.specs.Table.{entered, from_words, to_words, first_of, is_from, found_from, among_from, repeated_from, EntriesFit, Unlinked, TableEntries, RuleAt, Tabled}

-- ---- entries

pub entered-length : (table : List ℕ) (i a b c : ℕ) → length (entered table i a b c) ≡ length table
unfolding entered
entered-length table i a b c =
    length-set (set (set table (4 * i) a) (4 * i + 1) b) (4 * i + 2) c
    ∙ length-set (set table (4 * i) a) (4 * i + 1) b
    ∙ length-set table (4 * i) a

-- what stands elsewhere is kept
pub elsewhere : (table : List ℕ) (i a b c j : ℕ) → (j ≡ 4 * i → ⊥) → (j ≡ 4 * i + 1 → ⊥) → (j ≡ 4 * i + 2 → ⊥) → get_or (entered table i a b c) j 0 ≡ get_or table j 0
unfolding entered
elsewhere table i a b c j h₀ h₁ h₂ =
    get_or-set_other (set (set table (4 * i) a) (4 * i + 1) b) (4 * i + 2) j c 0 h₂
    ∙ get_or-set_other (set table (4 * i) a) (4 * i + 1) j b 0 h₁
    ∙ get_or-set_other table (4 * i) j a 0 h₀

record Entry (table : List ℕ) (i a b c : ℕ) : Type 0 where
  from : get_or table (4 * i) 0 ≡ a
  middle : get_or table (4 * i + 1) 0 ≡ b
  end : get_or table (4 * i + 2) 0 ≡ c

entry : (table : List ℕ) (i a b c : ℕ) → 4 * i + 2 < length table → Entry (entered table i a b c) i a b c
unfolding entered
entry table i a b c h =
    let t₁ = set table (4 * i) a in
    let t₂ = set t₁ (4 * i + 1) b in
    let l₁ = length-set table (4 * i) a in
    let l₂ = length-set t₁ (4 * i + 1) b in
    record {
      from =
          get_or-set_other t₂ (4 * i + 2) (4 * i) c 0 (λ e. omega (arith, e))
          ∙ get_or-set_other t₁ (4 * i + 1) (4 * i) b 0 (λ e. omega (arith, e)) ∙ get_or-set_same table (4 * i) a 0 (omega arith);
      middle = get_or-set_other t₂ (4 * i + 2) (4 * i + 1) c 0 (λ e. omega (arith, e)) ∙ get_or-set_same t₁ (4 * i + 1) b 0 (omega (arith, l₁));
      end = get_or-set_same t₂ (4 * i + 2) c 0 (omega (arith, l₁, l₂));
    }

-- a rule whose entries are the same
same-entry : {rules pairs table table' : List ℕ} {j : ℕ} {r : Rule} → get_or table' (4 * j) 0 ≡ get_or table (4 * j) 0 → get_or table' (4 * j + 1) 0 ≡ get_or table (4 * j + 1) 0
    → get_or table' (4 * j + 2) 0 ≡ get_or table (4 * j + 2) 0 → RuleAt rules pairs table j r → RuleAt rules pairs table' j r
same-entry e₀ e₁ e₂ k = record {
  from = rw e₀ k.from;
  middle = rw (e₀, e₁) k.middle;
  to = rw e₁ k.to;
  end = rw (e₁, e₂) k.end;
  reads = rw (e₁, e₂) k.reads;
}

-- rules whose entries are the same
pub same-tabled : (rules pairs : List ℕ) {table table' : List ℕ} (j : ℕ) (rs : List Rule) → j + length rs ≤ 32 → TableEntries table table' → Tabled rules pairs table j rs → Tabled rules pairs table' j rs
same-tabled rules pairs j [] h e k = tt
same-tabled rules pairs j (r ∷ rs) h e k =
    (same-entry (e.from j (omega arith)) (e.to j (omega arith)) (e.end j (omega arith)) k.0, same-tabled rules pairs (j + 1) rs (omega arith) e k.1)

-- the entry of another rule is kept
kept : (rules pairs table : List ℕ) (i a b c j : ℕ) {r : Rule} → j < i → RuleAt rules pairs table j r → RuleAt rules pairs (entered table i a b c) j r
kept rules pairs table i a b c j h k =
    same-entry (elsewhere table i a b c (4 * j) (λ e. omega (arith, e)) (λ e. omega (arith, e)) (λ e. omega (arith, e)))
    (elsewhere table i a b c (4 * j + 1) (λ e. omega (arith, e)) (λ e. omega (arith, e)) (λ e. omega (arith, e)))
    (elsewhere table i a b c (4 * j + 2) (λ e. omega (arith, e)) (λ e. omega (arith, e)) (λ e. omega (arith, e))) k

pub tabled-kept : (rules pairs table : List ℕ) (i a b c j : ℕ) (rs : List Rule) → j + length rs ≤ i → Tabled rules pairs table j rs → Tabled rules pairs (entered table i a b c) j rs
tabled-kept rules pairs table i a b c j [] h k = tt
tabled-kept rules pairs table i a b c j (r ∷ rs) h k = (kept rules pairs table i a b c j (omega arith) k.0, tabled-kept rules pairs table i a b c (j + 1) rs (omega arith) k.1)

pub tabled-more : (rules pairs table : List ℕ) (j : ℕ) (rs : List Rule) {r : Rule} → Tabled rules pairs table j rs → RuleAt rules pairs table (j + length rs) r → Tabled rules pairs table j (rs ++ (r ∷ []))
tabled-more rules pairs table j [] k a = (let z : j + 0 ≡ j = omega arith in rw z at a, tt)
tabled-more rules pairs table j (x ∷ rs) k a = (k.0, tabled-more rules pairs table (j + 1) rs k.1 (let z : j + suc (length rs) ≡ j + 1 + length rs = omega arith in rw z at a))

-- a rule that was read, as it is entered
pub rule-entered : (rules pairs table : List ℕ) (i place m n : ℕ) (r : Rule) → length table ≡ 160 → i < 32
    → Run rules place (encode r.0) → m ≡ place + length (encode r.0) → Run rules m (encode r.1) → n ≡ m + length (encode r.1) → tree_at rules pairs m ≡ got r.1 n
    → RuleAt rules pairs (entered table i place m n) i r
rule-entered rules pairs table i place m n r l few f e₁ t e₂ d =
    let k = entry table i place m n (omega (arith, l)) in
    record {
      from = rw k.from f;
      middle = rw (k.from, k.middle) e₁;
      to = rw k.middle t;
      end = rw (k.middle, k.end) e₂;
      reads = rw (k.middle, k.end) d;
    }

-- no link is entered
pub still-unlinked : (table : List ℕ) (i a b c : ℕ) → i < 32 → Unlinked table → Unlinked (entered table i a b c)
still-unlinked table i a b c h u = record {
  size = entered-length table i a b c ∙ u.size;
  none = λ s l m. elsewhere table i a b c s (λ e. omega (arith, e)) (λ e. omega (arith, e)) (λ e. omega (arith, e)) ∙ u.none s l m;
}

-- nor is one in a table of zeros
pub zeros-unlinked : Unlinked (replicate 160 0)
zeros-unlinked = record { size = length-replicate {A = ℕ} 160 0; none = λ s l m. zero-there 160 s }
  where
    zero-there : (n i : ℕ) → ◌≡◌ {A = ℕ} (get_or (replicate n 0) i 0) 0
    zero-there zero i = refl
    zero-there (suc n) zero = refl
    zero-there (suc n) (suc i) = zero-there n i

-- ---- rules lie within their words

pub rule-at : (rules pairs table : List ℕ) (j : ℕ) (rs : List Rule) → Tabled rules pairs table j rs → (i : ℕ) → j ≤ i → i < j + length rs → (r : Rule) × RuleAt rules pairs table i r
rule-at rules pairs table j [] k i h l = absurd (let z : ⊥ = omega arith in z)
rule-at rules pairs table j (r ∷ rs) k i h l = go (ℕ_discrete i j) (λ m n. rule-at rules pairs table (j + 1) rs k.1 i m n)
  where
    go : Dec (i ≡ j) → (j + 1 ≤ i → i < j + 1 + length rs → (r : Rule) × RuleAt rules pairs table i r) → (r : Rule) × RuleAt rules pairs table i r
    go (yes e) f = (r, rw e k.0)
    go (no d) f = f (omega arith) (omega arith)

pub tabled-fits : (rules pairs table : List ℕ) (rs : List Rule) (n : ℕ) → length rs ≡ n → n ≤ 32 → length table ≡ 160 → Tabled rules pairs table 0 rs → EntriesFit rules table n
tabled-fits rules pairs table rs n c h l k =
    let at : (i : ℕ) → i < n → (r : Rule) × RuleAt rules pairs table i r = λ i m. rule-at rules pairs table 0 rs k i (omega arith) (omega (arith, c)) in
    record {
      few = h;
      size = l;
      from = λ i m. omega (arith, (at i m).1.middle, encode-words (at i m).0.0, words-some (at i m).0.0);
      to = λ i m. omega (arith, (at i m).1.end);
      inside = λ i m. omega (arith, (at i m).1.end, (at i m).1.to.ends);
    }

-- ---- by words as by trees

pub found-or : (t : Bool) (i : ℕ) (f : Option ℕ) → is_some (pick t (Some i) f) ≡ (t or is_some f)
found-or true i f = refl
found-or false i f = refl

module _ (rules pairs table : List ℕ) (i : ℕ) {r : Rule} (k : RuleAt rules pairs table i r) where
  pub from-encoded : from_words rules table i ≡ encode r.0
  unfolding from_words
  from-encoded = let z : get_or table (4 * i + 1) 0 - get_or table (4 * i) 0 ≡ length (encode r.0) = omega (arith, k.middle) in rw z k.from.words

  pub to-encoded : to_words rules table i ≡ encode r.1
  unfolding to_words
  to-encoded = let z : get_or table (4 * i + 2) 0 - get_or table (4 * i + 1) 0 ≡ length (encode r.1) = omega (arith, k.end) in rw z k.to.words

module _ (name : ℕ → Bytes) (rules pairs table : List ℕ) where
  pub from-same : (i : ℕ) (t : Ty ℕ) {r : Rule} → RuleAt rules pairs table i r → same_runs name Kind (encode t) (from_words rules table i) ≡ same_by name t r.0
  from-same i t {r} k = ap (same_runs name Kind (encode t)) (from-encoded rules pairs table i k) ∙ same-encoded name t r.0

  among-trees : (i : ℕ) (t : Ty ℕ) (rs : List Rule) → Tabled rules pairs table i rs → among_from name rules table i (length rs) (encode t) ≡ among_froms (same_by name) t rs
  unfolding among_from found_from first_of is_from among_froms
  among-trees i t [] k = refl
  among-trees i t (r ∷ rs) k = found-or (is_from name rules table (encode t) i) i (found_from name rules table (i + 1) (length rs) (encode t)) ∙ rw (from-same i t k.0, among-trees (i + 1) t rs k.1) refl

  pub repeated-trees : (i : ℕ) (rs : List Rule) → Tabled rules pairs table i rs → repeated_from name rules table i (length rs) ≡ repeated (same_by name) rs
  unfolding repeated_from repeated
  repeated-trees i [] k = refl
  repeated-trees i (r ∷ rs) k =
      rw (from-encoded rules pairs table i k.0, among-trees (i + 1) r.0 rs k.1, repeated-trees (i + 1) rs k.1) refl

  -- what the tree t gives way to, from the rule that is found
  pub data GivesWay (n : ℕ) (t u : Ty ℕ) : Option ℕ → Type 0 where
    ways : {j : ℕ} {r : Rule} → j < n → RuleAt rules pairs table j r → u ≡ r.1 → GivesWay n t u (Some j)
    stays : u ≡ t → GivesWay n t u None

  pub found-trees : (i : ℕ) (t : Ty ℕ) (rs : List Rule) → Tabled rules pairs table i rs → GivesWay (i + length rs) t (ruled (same_by name) rs t) (found_from name rules table i (length rs) (encode t))
  unfolding found_from first_of is_from ruled
  found-trees i t [] k = stays refl
  found-trees i t (r ∷ rs) k = rw (from-same i t k.0) (go (same_by name t r.0) (found-trees (i + 1) t rs k.1))
    where
      wider : {m n : ℕ} {u : Ty ℕ} {f : Option ℕ} → m ≤ n → GivesWay m t u f → GivesWay n t u f
      wider {m} {n} h (ways {j = j} l a e) = let g : j < n = omega arith in ways g a e
      wider h (stays e) = stays e

      go : (b : Bool) → GivesWay (i + 1 + length rs) t (ruled (same_by name) rs t) (found_from name rules table (i + 1) (length rs) (encode t))
          → GivesWay (i + suc (length rs)) t (elim b as (λ x. Ty ℕ) [ true ↦ r.1 | false ↦ ruled (same_by name) rs t ]) (pick b (Some i) (found_from name rules table (i + 1) (length rs) (encode t)))
      go true g = let h : i < i + suc (length rs) = omega arith in ways h k.0 refl
      go false g = wider (omega arith) g
