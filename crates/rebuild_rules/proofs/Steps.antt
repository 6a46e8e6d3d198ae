-- Laws of the search through rules by their words, one rule after the other.
use Rattle.std.specs.Prelude.{Some}
use Prim.Native.Nat.{ℕ, zero, suc, ◌+◌, ◌-◌, ◌*◌, ◌≤◌, ◌<◌}
use mathlib.Core.Path.{◌≡◌, refl, ap, sym, ◌∙◌}
use mathlib.Core.Bool.{Bool, true, false}
use mathlib.Core.List.{List, [], ◌∷◌}
use native.Mathlib.Omega.{arith}
use native.Mathlib.Numerals.{add-one}
use borrow.Author.Tests.{ne_eqb}
use lib.ListN.{length, get_or, take, drop, length-take, length-drop}
use lib.Seq.{drop-cons}
use Rattle.rast.specs.Bytes.{Bytes, ◌and◌}
use Rattle.buffer.proofs.Laws.{part_length, part-more}
use Rattle.encoding.specs.Refusals.{pick}
use Rattle.encoding.proofs.Tables.{impossible}
use Rattle.same_type.specs.declared.Due.TheVariants.{Kind}
use Rattle.same_type.specs.Runs.{same_runs, agrees}
use Rattle.same_type.proofs.Steps.{runs-uneven}
use Rattle.rebuild_rules.specs.Table.{slot, slot_of, from_words, first_of, is_from, found_from, among_from, repeated_from, stands, some_stands, none_stands, EntriesFit}

-- the from of rule i are n words of the rules from p on
pub record From (rules table : List ℕ) (i p n : ℕ) : Type 0 where
  pub some : 0 < n
  pub inside : p + n ≤ length rules
  pub words : from_words rules table i ≡ take n (drop p rules)

-- the first entry of a rule, as `entry` reads it
pub first_entry : (table : List ℕ) (i : ℕ) → get_or table (4 * i + 0) 0 ≡ get_or table (4 * i) 0
first_entry table i = let z : 4 * i + 0 ≡ 4 * i = omega arith in rw z refl

-- as the entries say that its from begins at p and its to at q
module _ {rules table : List ℕ} {k i p q : ℕ} (f : EntriesFit rules table k) (h : i < k) (d : p ≡ get_or table (4 * i + 0) 0) (e : q ≡ get_or table (4 * i + 1) 0) where
  pub from_some : p < q
  from_some = omega (arith, f.from i h, d, first_entry table i, e)

  pub from_at : From rules table i p (q - p)
  unfolding from_words
  from_at = record { some = omega (arith, from_some); inside = omega (arith, from_some, e, f.to i h, f.inside i h); words = rw (d, first_entry table i, e) refl }

from-length : {rules table : List ℕ} {i p n : ℕ} → From rules table i p n → length (from_words rules table i) ≡ n
from-length {rules} {p = p} {n = n} g = ap length g.words ∙ part_length rules p n g.inside

module _ (name : ℕ → Bytes) {rules table : List ℕ} {i p n : ℕ} (g : From rules table i p n) where
  -- a from of another length, and of the same
  pub from-uneven : (out : List ℕ) (start count : ℕ) → start + count ≤ length out → (n ≡ count → ⊥) → is_from name rules table (take count (drop start out)) i ≡ false
  unfolding is_from
  from-uneven out start count l d =
      runs-uneven name Kind (take count (drop start out)) (from_words rules table i) (λ e. d (sym (from-length g) ∙ sym e ∙ part_length out start count l))

  pub from-even : (b : List ℕ) {count : ℕ} → n ≡ count → same_runs name Kind b (take count (drop p rules)) ≡ is_from name rules table b i
  unfolding is_from
  from-even b e = ap (same_runs name Kind b) (rw (← e) (sym g.words))

  -- one that is longer than what is left of the words, and one that may stand there
  pub stands-short : (ws : List ℕ) (at : ℕ) → at < length ws → length ws - at < n → stands name rules table (drop at ws) i ≡ false
  unfolding stands
  stands-short ws at l s =
      let m = from-length g in
      let a = length-drop at ws in
      runs-uneven name Kind (take (length (from_words rules table i)) (drop at ws)) (from_words rules table i) (λ e. omega (arith, e, m, s, a, length-take (length (from_words rules table i)) (drop at ws)))

  pub stands-run : (ws : List ℕ) → stands name rules table ws i ≡ same_runs name Kind (take n ws) (take n (drop p rules))
  unfolding stands
  stands-run ws = rw (from-length g, g.words)

-- ---- first words

from_front : (rules table : List ℕ) (k i : ℕ) → EntriesFit rules table k → i < k → (rest : List ℕ) × (from_words rules table i ≡ get_or rules (get_or table (4 * i) 0) 0 ∷ rest)
from_front rules table k i f h = let g = from_at f h (sym (first_entry table i)) refl in (_, g.words ∙ part-more rules _ _ (omega (arith, g.some, g.inside)) g.some)

module _ (name : ℕ → Bytes) (rules table : List ℕ) {k : ℕ} (f : EntriesFit rules table k) where
  -- a from that begins with another word, of another slot
  from-other : (i w : ℕ) (ws : List ℕ) → i < k → (slot_of rules table i ≡ slot w → ⊥) → is_from name rules table (w ∷ ws) i ≡ false
  unfolding is_from slot_of same_runs agrees ◌and◌
  from-other i w ws h d = rw ((from_front rules table k i f h).1, ne_eqb w (get_or rules (get_or table (4 * i) 0) 0) (λ e. d (ap slot (sym e)))) refl

  pub from-missed : (out : List ℕ) (start count : ℕ) → start + count ≤ length out → 0 < count → (i : ℕ) → i < k → (slot_of rules table i ≡ slot (get_or out start 0) → ⊥) → is_from name rules table (take count (drop start out)) i ≡ false
  from-missed out start count l h i m d = rw (part-more out start count (omega arith) h) (from-other i (get_or out start 0) _ m d)

  pub stands-missed : (ws : List ℕ) (at : ℕ) → at < length ws → (i : ℕ) → i < k → (slot_of rules table i ≡ slot (get_or ws at 0) → ⊥) → stands name rules table (drop at ws) i ≡ false
  unfolding stands is_from
  stands-missed ws at l i h d =
      let e = from_front rules table k i f h in
      rw (drop-cons ws at 0 l, ap length e.1) (from-other i (get_or ws at 0) (take (length e.0) (drop (suc at) ws)) h d)

-- of k, those from i on are one and those from i + 1 on
pub counted : (i k : ℕ) → i < k → k - i ≡ suc (k - (i + 1))
counted i k h = omega arith

module _ (name : ℕ → Bytes) (rules table : List ℕ) where
  past : (i k : ℕ) → k ≤ i → k - i ≡ 0
  past i k h = omega arith

  module _ (k : ℕ) (ws : List ℕ) (at : ℕ) where
    none-step : at < length ws → none_stands name rules table k (drop at ws) ≡ pick (some_stands name rules table 0 k (drop at ws)) false (none_stands name rules table k (drop (at + 1) ws))
    unfolding none_stands
    none-step l = rw (add-one at, drop-cons ws at 0 l) refl

    pub none_here : at < length ws → some_stands name rules table 0 k (drop at ws) ≡ true → none_stands name rules table k (drop at ws) ≡ false
    none_here l e = none-step l ∙ rw e refl

    pub none-later : at < length ws → some_stands name rules table 0 k (drop at ws) ≡ false → none_stands name rules table k (drop at ws) ≡ none_stands name rules table k (drop (at + 1) ws)
    none-later l e = none-step l ∙ rw e refl

    pub none_never : length ws ≤ at → none_stands name rules table k (drop at ws) ≡ true
    unfolding none_stands
    none_never l = go (drop at ws) (omega (arith, length-drop at ws))
      where
        go : (l : List ℕ) → length l ≡ 0 → none_stands name rules table k l ≡ true
        go [] e = refl
        go (x ∷ l) e = impossible (omega (arith, e))

  pub repeated-here : (i k : ℕ) → i < k → among_from name rules table (i + 1) (k - (i + 1)) (from_words rules table i) ≡ true → repeated_from name rules table i (k - i) ≡ true
  unfolding repeated_from
  repeated-here i k h e = rw (counted i k h, e) refl

  pub repeated-later : (i k : ℕ) → i < k → among_from name rules table (i + 1) (k - (i + 1)) (from_words rules table i) ≡ false → repeated_from name rules table i (k - i) ≡ repeated_from name rules table (i + 1) (k - (i + 1))
  unfolding repeated_from
  repeated-later i k h e = rw (counted i k h, e) refl

  pub repeated-never : (i k : ℕ) → k ≤ i → repeated_from name rules table i (k - i) ≡ false
  unfolding repeated_from
  repeated-never i k h = rw (past i k h) refl

-- a rule that is found is one of those that were tried
first-less : (test : ℕ → Bool) (i n : ℕ) {j : ℕ} → first_of test i n ≡ Some j → j < i + n
unfolding first_of
first-less test i zero e = impossible (cc)
first-less test i (suc n) {j} e = go (test i) e (first-less test (i + 1) n)
  where
    go : (t : Bool) → pick t (Some i) (first_of test (i + 1) n) ≡ Some j → (first_of test (i + 1) n ≡ Some j → j < i + 1 + n) → j < i + suc n
    go true e k = let z : i ≡ j = cc in omega (arith, z)
    go false e k = omega (arith, k e)

pub found-less : (name : ℕ → Bytes) (rules table : List ℕ) (i n : ℕ) (b : List ℕ) {j : ℕ} → found_from name rules table i n b ≡ Some j → j < i + n
unfolding found_from
found-less name rules table i n b e = first-less (is_from name rules table b) i n e
