-- Laws of heads.
use Rattle.encoding.specs.declared.Head.{Head}
use Rattle.encoding.specs.declared.Refusal.{Refusal}
use Rattle.std.specs.Prelude.{Result}
use Prim.Native.Nat.{ℕ, ◌+◌, ◌≤◌, ◌<◌}
use mathlib.Core.Path.{◌≡◌, refl, ap, sym, ◌∙◌}
use mathlib.Core.List.{List}
use native.Mathlib.Omega.{arith}
use borrow.Author.Tests.{lt-ltb, le-ltb, ne_eqb}
use mathlib.Core.Bool.{false}
use lib.Dec.{eqb}
use lib.ListN.{length, get_or}
use Rattle.encoding.specs.declared.Refusal.TheVariants.{EndsEarly, UnknownWord}
use Rattle.encoding.specs.declared.Head.TheVariants.{Plain}
use Rattle.encoding.specs.Reading.{Reading, got, stop, ◌>>=◌}
use Rattle.encoding.specs.Heads.{head_after, read_head}
use Rattle.encoding.specs.Scans.{scan_of, head_of, own_word}
use Rattle.encoding.proofs.Reading.{word_in, word_end}

pub head_at : (b : ℕ) (ws : List ℕ) (at : ℕ) → at < length ws → read_head b ws at ≡ head_after b ws (get_or ws at 0) (at + 1)
unfolding read_head
head_at b ws at h = rw (word_in ws at h)

pub head-end : (b : ℕ) (ws : List ℕ) (at : ℕ) → length ws ≤ at → read_head b ws at ≡ stop EndsEarly
unfolding read_head
head-end b ws at h = rw (word_end ws at h)

pub head_plain : (b : ℕ) (ws : List ℕ) (w p : ℕ) → w < 12 → head_after b ws w p ≡ got (Plain w) p
unfolding head_after
head_plain b ws w p h = rw (lt-ltb w 12 h)

-- a plain type's head at a place
pub plain-head : (b : ℕ) (ws : List ℕ) (at : ℕ) → at < length ws → get_or ws at 0 < 12 → read_head b ws at ≡ got (Plain (get_or ws at 0)) (at + 1)
plain-head b ws at h k = head_at b ws at h ∙ head_plain b ws (get_or ws at 0) (at + 1) k

pub head-other : (b : ℕ) (ws : List ℕ) (w p : ℕ) → 24 < w → head_after b ws w p ≡ stop UnknownWord
unfolding head_after
head-other b ws w p h =
    let no : (k : ℕ) → k ≤ 24 → eqb w k ≡ false = λ k m. ne_eqb w k (omega arith) in
    rw (
      le-ltb w 12 (omega arith),
      no 12 (omega arith),
      no 13 (omega arith),
      no 14 (omega arith),
      no 15 (omega arith),
      no 16 (omega arith),
      no 17 (omega arith),
      no 18 (omega arith),
      no 19 (omega arith),
      no 20 (omega arith),
      no 21 (omega arith),
      no 22 (omega arith),
      no 23 (omega arith),
      no 24 (omega arith),
    )

own-made : (w : ℕ) (x : Reading ℕ) → own_word w (scan_of x) ≡ scan_of (x >>= λ v q. got (head_of w v) q)
own-made w (got v n) = refl
own-made w (stop k) = refl

-- a head with one own word
pub head-worded : (b : ℕ) (ws : List ℕ) (w p : ℕ) (x : Reading ℕ) {r : Result (Head × ℕ) Refusal} {s : Result (ℕ × ℕ) Refusal}
    → head_after b ws w p ≡ (x >>= λ v q. got (head_of w v) q) → r ≡ own_word w s → s ≡ scan_of x → r ≡ scan_of (head_after b ws w p)
head-worded b ws w p x k d e = d ∙ ap (own_word w) e ∙ own-made w x ∙ ap scan_of (sym k)

-- a number that is none of six in a row is past them
pub past-six : (w a : ℕ) → a ≤ w → (w ≡ a → ⊥) → (w ≡ a + 1 → ⊥) → (w ≡ a + 2 → ⊥) → (w ≡ a + 3 → ⊥) → (w ≡ a + 4 → ⊥) → (w ≡ a + 5 → ⊥) → a + 6 ≤ w
past-six w a h h₀ h₁ h₂ h₃ h₄ h₅ = omega arith

-- what a match says of a number that is none of six in a row, behind what it says of earlier ones
abbrev pub NoneOfSix : Type 0 → ℕ → ℕ → Type 0
NoneOfSix A w a = (((((A × (w ≡ a → ⊥)) × (w ≡ a + 1 → ⊥)) × (w ≡ a + 2 → ⊥)) × (w ≡ a + 3 → ⊥)) × (w ≡ a + 4 → ⊥)) × (w ≡ a + 5 → ⊥)

six-passed : {A : Type 0} {w a : ℕ} → a ≤ w → NoneOfSix A w a → a + 6 ≤ w
six-passed h n = past-six _ _ h n.0.0.0.0.0.1 n.0.0.0.0.1 n.0.0.0.1 n.0.0.1 n.0.1 n.1

-- a kind above 12 that no arm of a match on the kinds from 13 on has
pub head-unknown : {A : Type 0} (b : ℕ) (ws : List ℕ) (w p : ℕ) → 13 ≤ w → NoneOfSix (NoneOfSix A w 13) w 19 → head_after b ws w p ≡ stop UnknownWord
head-unknown b ws w p h n = head-other b ws w p (six-passed (six-passed h n.0.0.0.0.0.0) n)

-- the same for a match that has 12 too
pub head-none : {A : Type 0} (b : ℕ) (ws : List ℕ) (w p : ℕ) → 12 ≤ w → NoneOfSix (NoneOfSix (A × (w ≡ 12 → ⊥)) w 13) w 19 → head_after b ws w p ≡ stop UnknownWord
head-none b ws w p h n = head-unknown b ws w p (omega (arith, n.0.0.0.0.0.0.0.0.0.0.0.0.1)) n
