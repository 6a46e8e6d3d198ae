-- Laws of the comparison of words, one word after the other, and of names by their bytes.
use Prim.Native.Nat.{ℕ, zero, suc, ◌+◌, ◌-◌, ◌*◌, ◌≤◌, ◌<◌}
use mathlib.Core.Path.{◌≡◌, refl, ap, sym, ◌∙◌}
use mathlib.Core.Bool.{false, not}
use mathlib.Core.List.{List, [], ◌∷◌}
use native.Mathlib.Omega.{arith}
use native.Mathlib.Decide.{ℕ_discrete}
use lib.Dec.{eqb}
use borrow.Author.Tests.{ne_eqb, not-true, not-false}
use lib.ListN.{length, get_or, take, drop}
use Rattle.rast.specs.Bytes.{Bytes, same, ◌and◌}
use Rattle.rast.proofs.BytesLaws.{and-false, and_no, and_yes}
use Rattle.buffer.specs.Wrote.{Wrote}
use Rattle.buffer.proofs.Laws.{wrote-front, part-more}
use Rattle.encoding.specs.Tables.{name_bytes, name_count, pair_bytes}
use Rattle.encoding.proofs.Tables.{name-fixed, name-pair}
use Rattle.encoding.proofs.Names.{fixed_same}
use Rattle.same_type.specs.declared.Due.{Due}
use Rattle.same_type.specs.Runs.{after, agrees, same_runs}
use Rattle.same_type.proofs.Words.{Steps}

pub same-swap : (a b : Bytes) → same a b ≡ same b a
unfolding same
same-swap [] [] = refl
same-swap [] (y ∷ b) = refl
same-swap (x ∷ a) [] = refl
same-swap (x ∷ a) (y ∷ b) = rw (eqb_swap x y, same-swap a b) refl
  where
    eqb_swap : (x y : ℕ) → eqb x y ≡ eqb y x
    eqb_swap x y = go (ℕ_discrete x y)
      where
        go : Dec (x ≡ y) → eqb x y ≡ eqb y x
        go (yes e) = rw e refl
        go (no h) = ne_eqb x y h ∙ sym (ne_eqb y x (λ e. h (sym e)))

-- two fixed names with different numbers
pub fixed-apart : (pairs text : List ℕ) (x y : ℕ) → x < 16 → y < 16 → (x ≡ y → ⊥) → same (name_bytes pairs text x) (name_bytes pairs text y) ≡ false
fixed-apart pairs text x y h k d =
    ap (same (name_bytes pairs text x)) (name-fixed pairs text y k) ∙ fixed_same pairs text x y h k ∙ ne_eqb x y d

-- a name that was written to the front stands there
pub front-name : {o o' b : List ℕ} {n : ℕ} → length b ≤ length o → Wrote o 0 b o' n → take (n - 0) (drop 0 o') ≡ b
front-name {n = n} h w = let z : n - 0 ≡ n = omega arith in rw z (wrote-front h w)

-- a name past the table
pub no_name : (pairs text : List ℕ) (x : ℕ) → name_count pairs ≤ x → name_bytes pairs text x ≡ []
unfolding pair_bytes
no_name pairs text x h =
    let e : get_or pairs (2 * (x - 16) + 1) 0 ≡ 0 = get_d_past pairs (2 * (x - 16) + 1) (omega arith) in
    name-pair pairs text x (omega arith) ∙ rw e refl
  where
    get_d_past : (l : List ℕ) (i : ℕ) → length l ≤ i → get_or l i 0 ≡ 0
    get_d_past [] i h = refl
    get_d_past (w ∷ l) zero h = absurd (let z : ⊥ = omega arith in z)
    get_d_past (w ∷ l) (suc i) h = get_d_past l i (omega arith)

-- ---- the front words of two runs

module _ (name : ℕ → Bytes) (due : Due) (a b : List ℕ) (i j left : ℕ) (h : i < length a) (k : j < length b) (l : 0 < left) where
  runs-more : same_runs name due (take left (drop i a)) (take left (drop j b))
      ≡ (agrees name due (get_or a i 0) (get_or b j 0) and same_runs name (after due (get_or a i 0)) (take (left - 1) (drop (i + 1) a)) (take (left - 1) (drop (j + 1) b)))
  unfolding same_runs
  runs-more = rw (part-more a i left h l, part-more b j left k l) refl

  runs-stop : agrees name due (get_or a i 0) (get_or b j 0) ≡ false → same_runs name due (take left (drop i a)) (take left (drop j b)) ≡ false
  runs-stop e = runs-more ∙ and_no _ e

  -- those behind them are not the same
  runs-behind : same_runs name (after due (get_or a i 0)) (take (left - 1) (drop (i + 1) a)) (take (left - 1) (drop (j + 1) b)) ≡ false
      → same_runs name due (take left (drop i a)) (take left (drop j b)) ≡ false
  runs-behind e = runs-more ∙ rw e (and-false (agrees name due (get_or a i 0) (get_or b j 0)))

pub runs-step : (name : ℕ → Bytes) → Steps (same_runs name) (λ due x y. not (agrees name due x y)) (λ due x y. after due x) false
unfolding same_runs
runs-step name = record { stops = λ due x y xs ys e. and_no _ (not-true (agrees name due x y) e); goes = λ due x y xs ys e. and_yes _ (not-false (agrees name due x y) e) }

-- runs of different lengths are not the same
pub runs-uneven : (name : ℕ → Bytes) (due : Due) (xs ys : List ℕ) → (length xs ≡ length ys → ⊥) → same_runs name due xs ys ≡ false
unfolding same_runs
runs-uneven name due [] [] h = absurd (h refl)
runs-uneven name due [] (y ∷ ys) h = refl
runs-uneven name due (x ∷ xs) [] h = refl
runs-uneven name due (x ∷ xs) (y ∷ ys) h = rw (runs-uneven name (after due x) xs ys (λ e. h (ap suc e))) (and-false (agrees name due x y))

-- runs whose words from the k-th on are never the same are not
module _ (name : ℕ → Bytes) (a b : List ℕ) where
  pub runs-later : (k i j left : ℕ) → k ≤ left → i + left ≤ length a → j + left ≤ length b
      → ((due : Due) → same_runs name due (take (left - k) (drop (i + k) a)) (take (left - k) (drop (j + k) b)) ≡ false)
      → (due : Due) → same_runs name due (take left (drop i a)) (take left (drop j b)) ≡ false
  runs-later zero i j left h l m f due =
      let p : left - 0 ≡ left = omega arith in
      let q : i + 0 ≡ i = omega arith in
      let r : j + 0 ≡ j = omega arith in
      rw (p, q, r) at (f due)
  runs-later (suc k) i j left h l m f due =
      let p : left - 1 - k ≡ left - suc k = omega (arith, h) in
      let q : i + 1 + k ≡ i + suc k = omega arith in
      let r : j + 1 + k ≡ j + suc k = omega arith in
      let g = runs-later k (i + 1) (j + 1) (left - 1) (omega (arith, h)) (omega (arith, h, l)) (omega (arith, h, m)) (λ d. rw (p, q, r) (f d)) (after due (get_or a i 0)) in
      runs-behind name due a b i j left (omega (arith, h, l)) (omega (arith, h, m)) (omega (arith, h)) g

  -- and so are runs whose k-th words never agree behind the word before them
  pub runs-differ : (k i j left : ℕ) → 0 < k → k < left → i + left ≤ length a → j + left ≤ length b
      → ((due : Due) → agrees name (after due (get_or a (i + k - 1) 0)) (get_or a (i + k) 0) (get_or b (j + k) 0) ≡ false)
      → (due : Due) → same_runs name due (take left (drop i a)) (take left (drop j b)) ≡ false
  runs-differ zero i j left s h l m f due = absurd (let z : ⊥ = omega arith in z)
  runs-differ (suc zero) i j left s h l m f due =
      let z : i + 1 - 1 ≡ i = omega arith in
      let g : agrees name (after due (get_or a i 0)) (get_or a (i + 1) 0) (get_or b (j + 1) 0) ≡ false = rw z at (f due) in
      runs-behind name due a b i j left (omega (arith, h, l)) (omega (arith, h, m)) (omega (arith, h))
      (runs-stop name (after due (get_or a i 0)) a b (i + 1) (j + 1) (left - 1) (omega (arith, h, l)) (omega (arith, h, m)) (omega (arith, h)) g)
  runs-differ (suc (suc k)) i j left s h l m f due =
      let p : i + 1 + suc k ≡ i + suc (suc k) = omega arith in
      let q : j + 1 + suc k ≡ j + suc (suc k) = omega arith in
      runs-behind name due a b i j left (omega (arith, h, l)) (omega (arith, h, m)) (omega (arith, h))
      (runs-differ (suc k) (i + 1) (j + 1) (left - 1) (omega arith) (omega (arith, h)) (omega (arith, h, l)) (omega (arith, h, m)) (λ d. rw (p, q) (f d)) (after due (get_or a i 0)))
