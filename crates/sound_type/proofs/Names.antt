-- Laws of what is judged, and of names that were found sound.
use Rattle.std.specs.Prelude.{Result, Ok, Err}
use Prim.Native.Nat.{ℕ, zero, suc, ◌-◌, ◌%◌, ◌≤◌, ◌<◌}
use mathlib.Core.Path.{◌≡◌, refl, ap, sym, ◌∙◌, subst}
use mathlib.Core.Bool.{Bool, true, false}
use mathlib.Core.List.{List}
use native.Mathlib.Omega.{arith}
use borrow.Author.Tests.{eqb-true, eqb-false, ne_eqb}
use lib.Dec.{eqb}
use lib.ListN.{get_or, set, replicate, length-set}
use lib.Seq.{get_or-set_same, get_or-set_other}
use Rattle.rast.specs.Bytes.{Bytes}
use Rattle.rast.specs.Sound.{sound_name, sound_size}
use Rattle.encoding.specs.declared.Refusal.{Refusal}
use Rattle.encoding.specs.declared.Refusal.TheVariants.{UnknownWord}
use Rattle.encoding.specs.Refusals.{pick}
use Rattle.encoding.specs.Tables.{name_bytes, name_count}
use Rattle.encoding.specs.Types.{size_of}
use Rattle.sound_type.specs.Judging.{Known, unless_judged, NameChecked, fine, poor, no_name}
use Rattle.encoding.proofs.Tables.{impossible}
use Rattle.sound_names.proofs.Names.{fixed-sound, size-named, size-of-name}

-- ---- what is judged, and what is not

pub judged-nothing : {ask : ℕ} (s : Bool) → ask ≡ 0 → unless_judged ask s ≡ true
unfolding unless_judged
judged-nothing s e = rw e

pub judged-all : {ask : ℕ} {s : Bool} → 0 < ask → unless_judged ask s ≡ s
unfolding unless_judged
judged-all {ask} h = rw (ne_eqb ask 0 (omega arith))

pub judged-sound : (ask : ℕ) {s : Bool} → s ≡ true → unless_judged ask s ≡ true
unfolding unless_judged
judged-sound ask e = rw e (go (eqb ask 0))
  where
    go : (b : Bool) → pick b true true ≡ true
    go true = refl
    go false = refl

-- ---- names that were found sound

module _ (pairs : List ℕ) (text : Bytes) where
  -- at the start the first place holds a name that belongs elsewhere, so that it does not hold the empty name
  pub known-none : Known pairs text (set (replicate 64 0) 0 1)
  known-none = record { room = refl; inside = λ x e. absurd (elsewhere x e); sound = λ x e. absurd (elsewhere x e) }
    where
      zeros : (n i : ℕ) → get_or (replicate {A = ℕ} n 0) i 0 ≡ 0
      zeros zero i = refl
      zeros (suc n) zero = refl
      zeros (suc n) (suc i) = zeros n i

      elsewhere : (x : ℕ) → get_or (set (replicate {A = ℕ} 64 0) 0 1) (x % 64) 0 ≡ x → ⊥
      elsewhere x e = go (eqb (x % 64) 0) refl
        where
          go : (b : Bool) → eqb (x % 64) 0 ≡ b → ⊥
          go true d =
              let i = eqb-true (x % 64) 0 d in
              let k : 1 ≡ x = sym (get_or-set_same (replicate {A = ℕ} 64 0) 0 1 0 (omega arith)) ∙ (rw i at e) in
              omega arith
          go false d =
              let i = eqb-false (x % 64) 0 d in
              let k : 0 ≡ x = sym (get_or-set_other (replicate {A = ℕ} 64 0) 0 (x % 64) 1 0 i ∙ zeros 64 (x % 64)) ∙ e in
              omega arith

  -- one name more
  pub known_more : {known : List ℕ} → Known pairs text known → (y : ℕ) → y < name_count pairs → sound_name (name_bytes pairs text y) ≡ true
      → Known pairs text (set known (y % 64) y)
  known_more {known} k y h s = record {
    room = simp length-set k.room;
    inside = λ x e. place x (λ z. z < name_count pairs) h (k.inside x) e;
    sound = λ x e. place x (λ z. sound_name (name_bytes pairs text z) ≡ true) s (k.sound x) e;
  }
    where
      place : (x : ℕ) (P : ℕ → Type 0) → P y → (get_or known (x % 64) 0 ≡ x → P x) → get_or (set known (y % 64) y) (x % 64) 0 ≡ x → P x
      place x P here there e = go (eqb (x % 64) (y % 64)) refl
        where
          go : (b : Bool) → eqb (x % 64) (y % 64) ≡ b → P x
          go true d =
              let i = eqb-true (x % 64) (y % 64) d in
              let same : y ≡ x = sym (get_or-set_same known (y % 64) y 0 (omega (arith, k.room))) ∙ (rw i at e) in
              subst P same here
          go false d =
              let i = eqb-false (x % 64) (y % 64) d in
              there (sym (get_or-set_other known (y % 64) (x % 64) y 0 i) ∙ e)

-- a fixed name more, which is not the empty one
pub known-fixed : (pairs : List ℕ) (text : Bytes) {known : List ℕ} → Known pairs text known → (i : ℕ) → 0 < i → i < 16 → Known pairs text (set known i i)
known-fixed pairs text k i h l =
    let e : i % 64 ≡ i = omega arith in
    rw e at (known_more pairs text k i (omega arith) (fixed-sound pairs text i l ∙ rw (ne_eqb i 0 (omega arith))))

-- ---- a name, as it was found

module _ {pairs : List ℕ} {text : Bytes} {x : ℕ} where
  pub was-fine : {r : Result Bool Refusal} → NameChecked pairs text x r → r ≡ Ok true → (x < name_count pairs) × (sound_name (name_bytes pairs text x) ≡ true)
  was-fine (fine h s) d = (h, s)
  was-fine (poor s) d = impossible (cc)
  was-fine (no_name h) d = impossible (cc)

  pub was-poor : {r : Result Bool Refusal} → NameChecked pairs text x r → r ≡ Ok false → sound_name (name_bytes pairs text x) ≡ false
  was-poor (fine h s) d = impossible (cc)
  was-poor (poor s) d = s
  was-poor (no_name h) d = impossible (cc)

  pub was-no-name : {r : Result Bool Refusal} {k : Refusal} → NameChecked pairs text x r → r ≡ Err k → (name_count pairs ≤ x) × (k ≡ UnknownWord)
  was-no-name (fine h s) d = impossible (cc)
  was-no-name (poor s) d = impossible (cc)
  was-no-name (no_name h) d = (h, cc)

pub judged-size : (name : ℕ → Bytes) (s ask : ℕ) → 0 < s → sound_name (name (s - 1)) ≡ true → unless_judged ask (sound_size (size_of name s)) ≡ true
judged-size name s ask h e = judged-sound ask (ap sound_size (size-named name s h) ∙ size-of-name _ e)
