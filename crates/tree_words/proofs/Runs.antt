-- Laws of runs of words.
use Prim.Native.Nat.{ℕ, suc, ◌+◌, ◌-◌, ◌≤◌, ◌<◌}
use mathlib.Core.Path.{◌≡◌, refl, ap, sym, ◌∙◌}
use mathlib.Core.List.{List, [], ◌∷◌, ◌++◌}
use native.Mathlib.Omega.{arith}
use lib.ListN.{length, get_or, take, drop, length-append, length-drop}
use lib.Seq.{drop-cons, drop-drop, take-add, take-append_seam, drop-append_seam, length-take-le}
use Rattle.tree_words.specs.Runs.{Run}
use Rattle.buffer.proofs.Laws.{part_length}

take-two : (ws : List ℕ) (a b : List ℕ) → take (length a) ws ≡ a → take (length b) (drop (length a) ws) ≡ b → take (length (a ++ b)) ws ≡ a ++ b
take-two ws a b e d = rw (length-append a b, take-add (length a) (length b) ws) (cc)

pub run_none : (ws : List ℕ) (at : ℕ) → at ≤ length ws → Run ws at []
run_none ws at h = record { ends = omega arith; words = refl }

pub run-one : (ws : List ℕ) (at : ℕ) → at < length ws → Run ws at (get_or ws at 0 ∷ [])
run-one ws at h = record { ends = omega arith; words = rw (drop-cons ws at 0 h) }

pub run_join : {ws : List ℕ} {at q : ℕ} (a b : List ℕ) → Run ws at a → q ≡ at + length a → Run ws q b → Run ws at (a ++ b)
run_join {ws} {at} {q} a b r e s = record {
  ends = omega (arith, length-append a b, s.ends);
  words = take-two (drop at ws) a b r.words (rw (drop-drop (length a) at ws, sym e) s.words);
}

-- two words, one behind the other
pub run-two : (ws : List ℕ) (at : ℕ) → at + 1 < length ws → Run ws at (get_or ws at 0 ∷ get_or ws (at + 1) 0 ∷ [])
run-two ws at h = run_join (get_or ws at 0 ∷ []) (get_or ws (at + 1) 0 ∷ []) (run-one ws at (omega arith)) refl (run-one ws (at + 1) h)

-- a part of the words stands where it was taken
pub run-part : (ws : List ℕ) (at n : ℕ) → at + n ≤ length ws → (length (take n (drop at ws)) ≡ n) × Run ws at (take n (drop at ws))
run-part ws at n h =
    let e : length (take n (drop at ws)) ≡ n = part_length ws at n h in
    (e, record { ends = omega (arith, e); words = rw e refl })

-- ---- words that stand at a position, and end behind themselves

abbrev pub Spelt : List ℕ → ℕ → List ℕ → ℕ → Type 0
Spelt ws p code n = Run ws p code × (n ≡ p + length code)

-- words that stand there one behind the other
pub spelt-parts : {ws : List ℕ} {p n : ℕ} (a b : List ℕ) → Spelt ws p (a ++ b) n → Spelt ws p a (p + length a) × Spelt ws (p + length a) b n
spelt-parts {ws} {p} {n} a b s =
    let l = length-append a b in
    let ends = s.0.ends in
    let w : take (length a + length b) (drop p ws) ≡ a ++ b = rw l at s.0.words in
    let v : take (length a) (drop p ws) ++ take (length b) (drop (length a) (drop p ws)) ≡ a ++ b = sym (take-add (length a) (length b) (drop p ws)) ∙ w in
    let d : length (drop p ws) ≡ length ws - p = length-drop p ws in
    let k : length (take (length a) (drop p ws)) ≡ length a = length-take-le (length a) (drop p ws) (omega (arith, d, l, ends)) in
    let h = halves (take (length a) (drop p ws)) (take (length b) (drop (length a) (drop p ws))) a b k v in (
      (record { ends = omega (arith, l, ends); words = h.0 }, refl),
      (record { ends = omega (arith, l, ends); words = rw (sym (drop-drop (length a) p ws)) h.1 }, omega (arith, s.1, l)),
    )
  where
    halves : (x y a b : List ℕ) → length x ≡ length a → x ++ y ≡ a ++ b → (x ≡ a) × (y ≡ b)
    halves x y a b k e = (
      sym (take-append_seam x y) ∙ ap (take (length x)) e ∙ ap (λ i. take i (a ++ b)) k ∙ take-append_seam a b,
      sym (drop-append_seam x y) ∙ ap (drop (length x)) e ∙ ap (λ i. drop i (a ++ b)) k ∙ drop-append_seam a b,
    )

-- the first word, and what stands behind it
pub spelt-first : {ws : List ℕ} {p n : ℕ} (x : ℕ) (xs : List ℕ) → Spelt ws p (x ∷ xs) n → (p < length ws) × (get_or ws p 0 ≡ x) × Spelt ws (p + 1) xs n
spelt-first {ws} {p} {n} x xs s =
    let k = spelt-parts (x ∷ []) xs s in
    let here : p < length ws = omega (arith, k.0.0.ends) in
    let w : take 1 (drop p ws) ≡ x ∷ [] = k.0.0.words in
    let v : take 1 (get_or ws p 0 ∷ drop (suc p) ws) ≡ x ∷ [] = sym (ap (take 1) (drop-cons ws p 0 here)) ∙ w in
    (here, cc, k.1)
