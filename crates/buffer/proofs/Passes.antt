-- Laws of a pass that writes bytes, or only counts them.
use Prim.Native.Nat.{ℕ, zero, suc, ◌+◌, ◌-◌, ◌^◌, ◌≤◌, ◌<◌}
use mathlib.Core.Path.{◌≡◌, refl, ap, sym, ◌∙◌, subst}
use mathlib.Core.Bool.{Bool, true, false, true≢false}
use mathlib.Core.List.{List, [], ◌∷◌, ◌++◌}
use native.Mathlib.Omega.{arith}
use native.Mathlib.Nat.{add-zero, sub-zero}
use borrow.Author.Tests.{lt-ltb, le-ltb, ltb-true, ltb-false}
use lib.Dec.{ltb}
use lib.ListN.{length, length-append, replicate, take, drop}
use Rattle.buffer.specs.Wrote.{Wrote}
use Rattle.buffer.specs.Laid.{at_most, clamp, Laid, Fits, spaces}
use Rattle.buffer.proofs.Laws.{wrote_nothing, wrote_then, room-last, ends-meet}

pub clamp-small : (n : ℕ) → n < 2 ^ 63 → clamp n ≡ n
unfolding clamp at_most
clamp-small n h = rw (lt-ltb n (2 ^ 63) h)

pub clamp-large : (n : ℕ) → 2 ^ 63 ≤ n → clamp n ≡ 2 ^ 63
unfolding clamp at_most
clamp-large n h = rw (le-ltb n (2 ^ 63) h)

-- what is below the limit, or has passed it
pub data Clamped (n : ℕ) : Type 0 where
  small : n < 2 ^ 63 → clamp n ≡ n → Clamped n
  large : 2 ^ 63 ≤ n → clamp n ≡ 2 ^ 63 → Clamped n

pub clamped : (n : ℕ) → Clamped n
clamped n = go (ltb n (2 ^ 63)) (ltb-true n (2 ^ 63)) (ltb-false n (2 ^ 63))
  where
    go : (t : Bool) → (t ≡ true → n < 2 ^ 63) → (t ≡ false → 2 ^ 63 ≤ n) → Clamped n
    go true h k = small (h refl) (clamp-small n (h refl))
    go false h k = large (k refl) (clamp-large n (k refl))

-- the same number of bytes further
pub clamp-more : (a b c : ℕ) → clamp a ≡ clamp b → clamp (a + c) ≡ clamp (b + c)
clamp-more a b c e = go (clamped a) (clamped b)
  where
    go : Clamped a → Clamped b → clamp (a + c) ≡ clamp (b + c)
    go (small h p) (small k q) = let s : a ≡ b = omega (arith, sym p ∙ e ∙ q) in ap (λ (x : ℕ). clamp (x + c)) s
    go (small h p) (large k q) = absurd (let z : ⊥ = omega (arith, sym p ∙ e ∙ q) in z)
    go (large h p) (small k q) = absurd (let z : ⊥ = omega (arith, sym p ∙ e ∙ q) in z)
    go (large h p) (large k q) = clamp-large (a + c) (omega arith) ∙ sym (clamp-large (b + c) (omega arith))

module _ {write : Bool} where
  pub laid-nothing : (o : List ℕ) (p : ℕ) → Laid write o p [] o p
  laid-nothing o p = record {
    wrote = λ e. wrote_nothing o p;
    counted = λ e. record { kept = refl; next = ap clamp (sym (add-zero p)) };
  }

  pub laid_then : {o o' o'' b c : List ℕ} {p p' p'' : ℕ} → Laid write o p b o' p' → Laid write o' p' c o'' p'' → Laid write o p (b ++ c) o'' p''
  laid_then {o} {o'} {o''} {b} {c} {p} {p'} {p''} l m = record {
    wrote = λ e. wrote_then (l.wrote e) (m.wrote e);
    counted = λ e. record {
      kept = (m.counted e).kept ∙ (l.counted e).kept;
      next = (m.counted e).next ∙ clamp-more p' (p + length b) (length c) (l.counted e).next
          ∙ ap clamp (let s : p + length b + length c ≡ p + length (b ++ c) = rw (length-append b c) (omega arith) in s);
    };
  }

  -- the same bytes, said in another way
  pub laid_as : {o o' b c : List ℕ} {p p' : ℕ} → b ≡ c → Laid write o p b o' p' → Laid write o p c o' p'
  laid_as {o} {o'} {b} {c} {p} {p'} e l = subst (λ (x : List ℕ). Laid write o p x o' p') e l

  pub fits-as : {o b c : List ℕ} {p : ℕ} → b ≡ c → Fits write o p b → Fits write o p c
  fits-as {o} {b} {c} {p} e f = subst (λ (x : List ℕ). Fits write o p x) e f

  -- a front has room where the whole has
  pub fits-front : {o b : List ℕ} {p : ℕ} (c : List ℕ) → Fits write o p (b ++ c) → Fits write o p b
  fits-front {o} {b} {p} c f = record { room = λ e. let l = length-append b c in omega (arith, f.room e, l) }

  -- and what follows it, once the front is laid
  pub fits-behind : {o o' b : List ℕ} {p p' : ℕ} (c : List ℕ) → Fits write o p (b ++ c) → Laid write o p b o' p' → Fits write o' p' c
  fits-behind c f l = record { room = λ e. room-last c (f.room e) (l.wrote e) refl }

  pub laid-wrote : {o o' b : List ℕ} {p p' : ℕ} → write ≡ true → Wrote o p b o' p' → Laid write o p b o' p'
  laid-wrote e w = record { wrote = λ d. w; counted = λ d. absurd (true≢false (sym e ∙ d)) }

  pub laid-counted : {o b : List ℕ} {p p' : ℕ} → write ≡ false → clamp p' ≡ clamp (p + length b) → Laid write o p b o p'
  laid-counted e n = record { wrote = λ d. absurd (true≢false (sym d ∙ e)); counted = λ d. record { kept = refl; next = n } }

  -- the same, by how many bytes they are
  pub laid-size : {o b : List ℕ} {p p' n : ℕ} → write ≡ false → clamp p' ≡ clamp (p + n) → n ≡ length b → Laid write o p b o p'
  laid-size {p = p} w c e = laid-counted w (c ∙ ap (λ (m : ℕ). clamp (p + m)) e)

-- what was clamped stays as it is
pub clamp-of : {p : ℕ} (n : ℕ) → p ≡ clamp n → clamp p ≡ clamp n
clamp-of n e = ap clamp e ∙ go (clamped n)
  where
    go : Clamped n → clamp (clamp n) ≡ clamp n
    go (small h e) = ap clamp e
    go (large h e) = ap clamp e ∙ clamp-large (2 ^ 63) (omega arith) ∙ sym e

pub length-spaces : (n : ℕ) → length (spaces n) ≡ n
unfolding spaces
length-spaces zero = refl
length-spaces (suc n) = rw (length-spaces n)

pub spaces-are : (n : ℕ) → replicate n 32 ≡ spaces n
unfolding spaces
spaces-are zero = refl
spaces-are (suc n) = ap (◌∷◌ 32) (spaces-are n)

take-spaces : (n m : ℕ) → n ≤ m → take n (spaces m) ≡ spaces n
unfolding spaces
take-spaces zero m h = refl
take-spaces (suc n) zero h = absurd (let z : ⊥ = omega arith in z)
take-spaces (suc n) (suc m) h = ap (◌∷◌ 32) (take-spaces n m (omega arith))

drop-spaces : (n m : ℕ) → n ≤ m → drop n (spaces m) ≡ spaces (m - n)
unfolding spaces
drop-spaces zero m h = rw (sub-zero m)
drop-spaces (suc n) zero h = absurd (let z : ⊥ = omega arith in z)
drop-spaces (suc n) (suc m) h = let e : suc m - suc n ≡ m - n = omega arith in rw e (drop-spaces n m (omega arith))

-- the first half spaces and the last half, which may overlap
pub spaces-ends : (half count : ℕ) {o o' o'' : List ℕ} {p p' p'' : ℕ} → half ≤ count → count ≤ half + half → Wrote o p (spaces half) o' p'
    → Wrote o' (p + (count - half)) (spaces half) o'' p'' → Wrote o p (spaces count) o'' p''
spaces-ends half count {o} {o'} {o''} {p} {p'} {p''} h k l m =
    let first = take-spaces half count h in
    let d = drop-spaces (count - half) count (omega arith) in
    let e : count - (count - half) ≡ half = omega arith in
    let last : take half (drop (count - half) (spaces count)) ≡ spaces half = rw (d, e) (take-spaces half half (omega arith)) in
    let all = take-spaces count count (omega arith) in
    let z : 0 + (count - half) ≡ count - half = omega arith in
    let meet = ends-meet (spaces count) o 0 half count p h k (omega (arith, length-spaces count)) in
    record {
      bytes = m.bytes ∙ rw l.bytes (rw (first, z, last, all) at meet);
      next = rw (length-spaces count) (omega (arith, m.next, length-spaces half));
    }
