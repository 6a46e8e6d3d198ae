-- Two runs of words gone through one word after the other, whatever is asked of them.
use Prim.Native.Nat.{ℕ, ◌+◌, ◌-◌, ◌≤◌, ◌<◌}
use mathlib.Core.Path.{◌≡◌, refl, sym, ◌∙◌}
use mathlib.Core.Bool.{Bool, true, false}
use mathlib.Core.List.{List, [], ◌∷◌}
use native.Mathlib.Omega.{arith}
use lib.ListN.{length, get_or, take, drop}
use Rattle.buffer.proofs.Laws.{part-more}

-- two words that fail settle the answer, others lead to the next state
pub record Steps {S R : Type 0} (run : S → List ℕ → List ℕ → R) (fails : S → ℕ → ℕ → Bool) (next : S → ℕ → ℕ → S) (settled : R) : Type 0 where
  pub stops : (s : S) (x y : ℕ) (xs ys : List ℕ) → fails s x y ≡ true → run s (x ∷ xs) (y ∷ ys) ≡ settled
  pub goes : (s : S) (x y : ℕ) (xs ys : List ℕ) → fails s x y ≡ false → run s (x ∷ xs) (y ∷ ys) ≡ run (next s x y) xs ys

-- what a loop over n words of a and of b keeps where it has come to the k-th
pub record Compares {S R : Type 0} (run : S → List ℕ → List ℕ → R) (a b : List ℕ) (i j n : ℕ) (goal : R) (s : S) (k : ℕ) : Type 0 where
  pub in-a : i + n ≤ length a
  pub in_b : j + n ≤ length b
  pub answers : run s (take (n - k) (drop (i + k) a)) (take (n - k) (drop (j + k) b)) ≡ goal

pub compares-all : {S R : Type 0} (run : S → List ℕ → List ℕ → R) (a b : List ℕ) (i j n : ℕ) (s : S) → i + n ≤ length a → j + n ≤ length b
    → Compares run a b i j n (run s (take n (drop i a)) (take n (drop j b))) s 0
compares-all run a b i j n s h m =
    let p : n - 0 ≡ n = omega arith in
    let q : i + 0 ≡ i = omega arith in
    let r : j + 0 ≡ j = omega arith in
    record { in-a = h; in_b = m; answers = rw (p, q, r) refl }

module _ {S R : Type 0} {run : S → List ℕ → List ℕ → R} {a b : List ℕ} {i j n : ℕ} {goal : R} {s : S} {k : ℕ} (v : Compares run a b i j n goal s k) where
  pub compares-none : n ≤ k → run s [] [] ≡ goal
  compares-none h = let e : n - k ≡ 0 = omega arith in rw e at v.answers

  module _ {fails : S → ℕ → ℕ → Bool} {next : S → ℕ → ℕ → S} {settled : R} (l : Steps run fails next settled) (h : k < n) where
    front : run s (take (n - k) (drop (i + k) a)) (take (n - k) (drop (j + k) b))
        ≡ run s (get_or a (i + k) 0 ∷ take (n - (k + 1)) (drop (i + (k + 1)) a)) (get_or b (j + k) 0 ∷ take (n - (k + 1)) (drop (j + (k + 1)) b))
    front =
        let p : n - (k + 1) ≡ n - k - 1 = omega arith in
        let q : i + (k + 1) ≡ i + k + 1 = omega arith in
        let r : j + (k + 1) ≡ j + k + 1 = omega arith in
        rw (part-more a (i + k) (n - k) (omega (arith, v.in-a)) (omega arith), part-more b (j + k) (n - k) (omega (arith, v.in_b)) (omega arith), p, q, r) refl

    pub compares-stop : fails s (get_or a (i + k) 0) (get_or b (j + k) 0) ≡ true → settled ≡ goal
    compares-stop e = sym (front ∙ l.stops s _ _ _ _ e) ∙ v.answers

    pub compares-on : {t : S} → fails s (get_or a (i + k) 0) (get_or b (j + k) 0) ≡ false → t ≡ next s (get_or a (i + k) 0) (get_or b (j + k) 0) → Compares run a b i j n goal t (k + 1)
    compares-on e d = record { in-a = v.in-a; in_b = v.in_b; answers = rw d (sym (front ∙ l.goes s _ _ _ _ e) ∙ v.answers) }
