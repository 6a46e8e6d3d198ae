-- Laws of the bytes of names: the part of the text that a pair names, and equal bytes.
use Prim.Native.Nat.{ℕ, suc, ◌+◌, ◌*◌, ◌-◌, ◌≤◌, ◌<◌}
use mathlib.Core.Path.{◌≡◌, refl, ap, sym, ◌∙◌}
use mathlib.Core.Bool.{Bool, true, false, beq, ◌&&◌}
use mathlib.Core.List.{List, [], ◌∷◌}
use native.Mathlib.Omega.{arith}
use lib.Dec.{eqb}
use lib.Pointwise.{pointwise}
use Rattle.std.specs.Prelude.{nat_eq}
use lib.ListN.{length, get_or, take, drop}
use Rattle.rast.specs.Bytes.{Bytes, ascii, same, ◌and◌}
use Rattle.rast.proofs.BytesLaws.{and-false}
use Rattle.encoding.specs.Tables.{fixed_names, name_bytes, name_count}
use Rattle.encoding.specs.Tested.{Good}
use Rattle.encoding.proofs.Tables.{impossible, every_below, every-at, every-at-most, pair_inside, name-fixed, name-length, name-pair, length-pair}

-- the part from s to s + n
pub part-to : (l : Bytes) (s n : ℕ) → take (s + n - s) (drop s l) ≡ take n (drop s l)
part-to l s n =
    let e : s + n - s ≡ n = omega arith in
    rw e

-- the bytes of a name that stands in the text, by its start and length as they were read
module _ (pairs text : List ℕ) (x : ℕ) (h : 16 ≤ x) {s n : ℕ} (e : s ≡ get_or pairs (2 * (x - 16) + 0) 0) (d : n ≡ get_or pairs (2 * (x - 16) + 1) 0) where
  start : s ≡ get_or pairs (2 * (x - 16)) 0
  start = e ∙ (let z : 2 * (x - 16) + 0 ≡ 2 * (x - 16) = omega arith in rw z)

  pub pair-there : Good pairs text → x < name_count pairs → (s ≤ s + n) × (s + n ≤ length text)
  pair-there g k = (omega arith, omega (arith, start, d, pair_inside pairs text x g h k))

  pub pair-taken : take n (drop s text) ≡ name_bytes pairs text x
  pair-taken = rw (start, d) (sym (name-pair pairs text x h))

  pub pair-part : take (s + n - s) (drop s text) ≡ name_bytes pairs text x
  pair-part = part-to text s n ∙ pair-taken

  pub pair_size : Good pairs text → x < name_count pairs → length (name_bytes pairs text x) ≡ n
  pair_size g k = name-length pairs text x g k ∙ length-pair pairs x h ∙ sym d

-- ---- equal bytes

pub same-apart : (a b : Bytes) → (length a ≡ length b → ⊥) → same a b ≡ false
unfolding same
same-apart [] [] h = absurd (h refl)
same-apart [] (y ∷ b) h = refl
same-apart (x ∷ a) [] h = refl
same-apart (x ∷ a) (y ∷ b) h = rw (same-apart a b (λ e. h (ap suc e))) (and-false (eqb x y))

and_is : (s t : Bool) → (s && t) ≡ (s and t)
unfolding ◌and◌
and_is true t = refl
and_is false t = refl

-- what the library's `==` answers
pub same_is : (a b : Bytes) → pointwise nat_eq a b ≡ same a b
unfolding same
same_is [] [] = refl
same_is [] (y ∷ b) = refl
same_is (x ∷ a) [] = refl
same_is (x ∷ a) (y ∷ b) = rw (same_is a b) (and_is (nat_eq x y) (same a b))

-- ---- fixed names

beq-eq : (a b : Bool) → beq a b ≡ true → a ≡ b
beq-eq true true e = refl
beq-eq true false e = impossible (cc)
beq-eq false true e = impossible (cc)
beq-eq false false e = refl

-- two tests agree at each number below n
pub every-agree : (f g : ℕ → Bool) (n : ℕ) → every_below (λ i. beq (f i) (g i)) n ≡ true → (k : ℕ) → k < n → f k ≡ g k
every-agree f g n e k h = beq-eq (f k) (g k) (every-at (λ i. beq (f i) (g i)) n e k h)

-- no fixed name has more than 13 bytes
pub fixed-short : (pairs text : List ℕ) (x : ℕ) → x < 16 → length (name_bytes pairs text x) ≤ 13
unfolding every_below fixed_names ascii ◌and◌
fixed-short pairs text x h = rw (name-fixed pairs text x h) (every-at-most (λ i. length (get_or fixed_names i [])) 13 16 refl x h)

-- no two of the fixed names are the same
pub fixed_same : (pairs text : Bytes) (x k : ℕ) → x < 16 → k < 16 → same (name_bytes pairs text x) (get_or fixed_names k []) ≡ eqb x k
unfolding every_below ◌and◌ same fixed_names ascii
fixed_same pairs text x k h l =
    rw (name-fixed pairs text x h)
    (every-agree (λ j. same (get_or fixed_names x []) (get_or fixed_names j [])) (eqb x) 16
    (every-at (λ i. every_below (λ j. beq (same (get_or fixed_names i []) (get_or fixed_names j [])) (eqb i j)) 16) 16 refl x h) k l)
