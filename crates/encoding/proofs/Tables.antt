-- Laws of the tables: pairs and names.
use Rattle.encoding.specs.declared.Refusal.{Refusal}
use Rattle.std.specs.Prelude.{Ok, Err, Result}
use Prim.Native.Nat.{ℕ, zero, suc, ◌+◌, ◌-◌, ◌*◌, ◌/◌, ◌%◌, ◌≤◌, ◌<◌}
use mathlib.Core.Path.{◌≡◌, refl, sym, ◌∙◌}
use mathlib.Core.Bool.{Bool, true, false}
use mathlib.Core.List.{List, [], ◌∷◌, ◌++◌}
use native.Mathlib.Omega.{arith}
use native.Mathlib.Decide.{ℕ_discrete, dec_lt}
use borrow.Author.Tests.{lt-ltb, le-ltb, le-leb, lt-leb, eqb-true, leb-true, ltb-false}
use lib.Dec.{eqb, leb, ltb}
use lib.ListN.{length, get_or, take, drop, length-take, length-drop}
use Rattle.rast.specs.Bytes.{Bytes, ascii, same, ◌and◌, ◌or◌}
use Rattle.rast.proofs.BytesLaws.{and_left, and_right, and-false}
use Rattle.encoding.specs.declared.Refusal.TheVariants.{Overlong, BadPair}
use Rattle.encoding.specs.Refusals.{pick}
use Rattle.encoding.specs.Tables.{overlong, check_tables, good_pairs, fixed_names, name_bytes, name_count, pair_bytes}
use Rattle.encoding.specs.Tested.{Good, digit_at, name_length}

-- nothing holds where two numbers are one
pub impossible : {A : Type 0} → ◌≡◌ {A = ℕ} 0 1 → A
impossible e = absurd (let z : ⊥ = omega arith in z)

pub same-eq : (x y : Bytes) → same x y ≡ true → x ≡ y
unfolding same
same-eq [] [] e = refl
same-eq [] (b ∷ y) e = impossible (cc)
same-eq (a ∷ x) [] e = impossible (cc)
same-eq (a ∷ x) (b ∷ y) e =
    let p : a ≡ b = eqb-true a b (and_left (eqb a b) (same x y) e) in
    let q : x ≡ y = same-eq x y (and_right (eqb a b) (same x y) e) in
    rw (p, q)

-- ---- the table of the fixed names

-- a test holds at each number below n
unfoldable pub every_below : (ℕ → Bool) → ℕ → Bool
every_below f zero = true
every_below f (suc n) = f n and every_below f n

pub every-at : (f : ℕ → Bool) (n : ℕ) → every_below f n ≡ true → (k : ℕ) → k < n → f k ≡ true
unfolding every_below
every-at f zero e k h = absurd (let z : ⊥ = omega arith in z)
every-at f (suc n) e k h = go (ℕ_discrete k n) (every-at f n (and_right (f n) (every_below f n) e) k)
  where
    go : Dec (k ≡ n) → (k < n → f k ≡ true) → f k ≡ true
    go (yes p) below = rw p (and_left (f n) (every_below f n) e)
    go (no p) below = below (omega arith)

-- the same where the test is of numbers that are equal, of a number that is at most m, or of equal bytes
pub every-equal : (f g : ℕ → ℕ) (n : ℕ) → every_below (λ i. eqb (f i) (g i)) n ≡ true → (k : ℕ) → k < n → f k ≡ g k
every-equal f g n e k h = eqb-true (f k) (g k) (every-at (λ i. eqb (f i) (g i)) n e k h)

pub every-at-most : (f : ℕ → ℕ) (m n : ℕ) → every_below (λ i. leb (f i) m) n ≡ true → (k : ℕ) → k < n → f k ≤ m
every-at-most f m n e k h = leb-true (f k) m (every-at (λ i. leb (f i) m) n e k h)

pub every-same : (f g : ℕ → Bytes) (n : ℕ) → every_below (λ i. same (f i) (g i)) n ≡ true → (k : ℕ) → k < n → f k ≡ g k
every-same f g n e k h = same-eq (f k) (g k) (every-at (λ i. same (f i) (g i)) n e k h)

unfoldable pub starts : List ℕ
starts = 0 ∷ 48 ∷ 72 ∷ 70 ∷ 12 ∷ 51 ∷ 43 ∷ 54 ∷ 57 ∷ 32 ∷ 16 ∷ 64 ∷ 29 ∷ 0 ∷ 74 ∷ 60 ∷ []

unfoldable pub letters : Bytes
letters = ascii "MaybePlacebosyncdafny_runtimePtrMaybeUninitboxedstdArcBoxmemselfObjectRcrc_"

pub fixed-part : (k : ℕ) → k < 16 → take (length (get_or fixed_names k [])) (drop (get_or starts k 0) letters) ≡ get_or fixed_names k []
unfolding every_below same starts letters fixed_names ascii ◌and◌
fixed-part k h = every-same (λ i. take (length (get_or fixed_names i [])) (drop (get_or starts i 0) letters)) (λ i. get_or fixed_names i []) 16 refl k h

-- the digits are the lengths
pub fixed-length : (k : ℕ) → k < 16 → digit_at 4738751849383076400 k ≡ length (get_or fixed_names k [])
unfolding every_below digit_at fixed_names ascii ◌and◌
fixed-length k h = every-equal (digit_at 4738751849383076400) (λ i. length (get_or fixed_names i [])) 16 refl k h

-- each fixed name lies within the letters
pub fixed-inside : (k : ℕ) → k < 16 → get_or starts k 0 + length (get_or fixed_names k []) ≤ 75
unfolding every_below starts fixed_names ascii ◌and◌
fixed-inside k h = every-at-most (λ i. get_or starts i 0 + length (get_or fixed_names i [])) 75 16 refl k h

-- ---- pairs

-- half a pair ends the table
pub pairs-odd : (l : List ℕ) (end size : ℕ) → (length l % 2 ≡ 0 → ⊥) → good_pairs l end size ≡ false
unfolding good_pairs ◌and◌
pairs-odd [] end size h = absurd (h refl)
pairs-odd (x ∷ []) end size h = refl
pairs-odd (x ∷ y ∷ l) end size h = rw (pairs-odd l (x + y) size (λ e. h (omega (arith, e)))) (and-false (leb end x and leb (x + y) size))

-- a table's first pair, x, and the table behind it, r
module _ (l x r : List ℕ) (end size : ℕ) (s : l ≡ x ++ r) (two : length x ≡ 2) where
  first : good_pairs l end size
      ≡ (leb end (get_or x 0 0) and leb (get_or x 0 0 + get_or x 1 0) size and good_pairs r (get_or x 0 0 + get_or x 1 0) size)
  unfolding good_pairs
  first = rw s (go x two)
    where
      go : (x : List ℕ) → length x ≡ 2 → good_pairs (x ++ r) end size
          ≡ (leb end (get_or x 0 0) and leb (get_or x 0 0 + get_or x 1 0) size and good_pairs r (get_or x 0 0 + get_or x 1 0) size)
      go [] e = impossible (cc)
      go (a ∷ []) e = impossible (cc)
      go (a ∷ b ∷ []) e = refl
      go (a ∷ b ∷ c ∷ x) e = absurd (let z : ⊥ = omega arith in z)

  pub pairs-early : get_or x 0 0 < end → good_pairs l end size ≡ false
  unfolding ◌and◌
  pairs-early k = rw (first, lt-leb end (get_or x 0 0) k)

  pub pairs-late : end ≤ get_or x 0 0 → size < get_or x 0 0 + get_or x 1 0 → good_pairs l end size ≡ false
  unfolding ◌and◌
  pairs-late k m = rw (first, le-leb end (get_or x 0 0) k, lt-leb (get_or x 0 0 + get_or x 1 0) size m)

  pub pairs_next : end ≤ get_or x 0 0 → get_or x 0 0 + get_or x 1 0 ≤ size → good_pairs l end size ≡ good_pairs r (get_or x 0 0 + get_or x 1 0) size
  unfolding ◌and◌
  pairs_next k m = rw (first, le-leb end (get_or x 0 0) k, le-leb (get_or x 0 0 + get_or x 1 0) size m)

-- what is less than a pair, and no half of one, is nothing
pub pairs_end : (l : List ℕ) (end size : ℕ) → length l < 2 → length l % 2 ≡ 0 → good_pairs l end size ≡ true
unfolding good_pairs
pairs_end [] end size h e = refl
pairs_end (x ∷ []) end size h e = impossible (cc)
pairs_end (x ∷ y ∷ l) end size h e = absurd (let z : ⊥ = omega arith in z)

-- a good pair lies within the text
pair_fits : (l : List ℕ) (end size i : ℕ) → good_pairs l end size ≡ true → 2 * i + 1 < length l → get_or l (2 * i) 0 + get_or l (2 * i + 1) 0 ≤ size
unfolding good_pairs
pair_fits [] end size i e h = absurd (let z : ⊥ = omega arith in z)
pair_fits (a ∷ []) end size i e h = impossible (cc)
pair_fits (a ∷ b ∷ l) end size zero e h = leb-true (a + b) size (and_right (leb end a) (leb (a + b) size) (and_left (leb end a and leb (a + b) size) (good_pairs l (a + b) size) e))
pair_fits (a ∷ b ∷ l) end size (suc i) e h =
    let e₁ : 2 * suc i ≡ suc (suc (2 * i)) = omega arith in
    let e₂ : 2 * suc i + 1 ≡ suc (suc (2 * i + 1)) = omega arith in
    rw (e₂, e₁) (pair_fits l (a + b) size i (and_right (leb end a and leb (a + b) size) (good_pairs l (a + b) size) e) (omega arith))

pub pair_inside : (pairs : List ℕ) (text : Bytes) (x : ℕ) → Good pairs text → 16 ≤ x → x < name_count pairs
    → get_or pairs (2 * (x - 16)) 0 + get_or pairs (2 * (x - 16) + 1) 0 ≤ length text
pair_inside pairs text x g h k = pair_fits pairs 0 (length text) (x - 16) g (omega arith)

-- ---- names

pub name-fixed : (pairs text : List ℕ) (x : ℕ) → x < 16 → name_bytes pairs text x ≡ get_or fixed_names x []
unfolding name_bytes
name-fixed pairs text x h = rw (lt-ltb x 16 h)

pub name-pair : (pairs text : List ℕ) (x : ℕ) → 16 ≤ x
    → name_bytes pairs text x ≡ take (get_or pairs (2 * (x - 16) + 1) 0) (drop (get_or pairs (2 * (x - 16)) 0) text)
unfolding name_bytes pair_bytes
name-pair pairs text x h = rw (le-ltb x 16 h)

pub length-fixed : (pairs : List ℕ) (x : ℕ) → x < 16 → name_length pairs x ≡ length (get_or fixed_names x [])
unfolding name_length
length-fixed pairs x h = rw (lt-ltb x 16 h)

pub length-pair : (pairs : List ℕ) (x : ℕ) → 16 ≤ x → name_length pairs x ≡ get_or pairs (2 * (x - 16) + 1) 0
unfolding name_length
length-pair pairs x h = rw (le-ltb x 16 h)

pub name-length : (pairs text : List ℕ) (x : ℕ) → Good pairs text → x < name_count pairs → length (name_bytes pairs text x) ≡ name_length pairs x
name-length pairs text x g h = go (dec_lt x 16)
  where
    go : Dec (x < 16) → length (name_bytes pairs text x) ≡ name_length pairs x
    go (yes k) = rw (name-fixed pairs text x k, length-fixed pairs x k)
    go (no k) =
        let k' : 16 ≤ x = omega arith in
        let i = pair_inside pairs text x g k' h in
        rw (name-pair pairs text x k', length-pair pairs x k') (simp (length-take, length-drop) (omega arith))

-- ---- what passed tests say

pub record Tables (words pairs : List ℕ) (text : Bytes) : Type 0 where
  pub good : Good pairs text
  pub few : length words ≤ 8192
  pub pairs-few : length pairs / 2 ≤ 1024

passed : (a b c g : Bool) → pick {A = Result (Unit {0}) Refusal} (a or b or c) (Err Overlong) (pick g (Ok tt) (Err BadPair)) ≡ Ok tt → (a ≡ false) × (b ≡ false) × (c ≡ false) × (g ≡ true)
passed false false false true e = (refl, refl, refl, refl)
passed false false false false e = impossible (cc)
passed false false true g e = impossible (cc)
passed false true c g e = impossible (cc)
passed true b c g e = impossible (cc)

pub tables-passed : (words pairs : List ℕ) (text : Bytes) → check_tables words pairs text ≡ Ok tt → Tables words pairs text
unfolding check_tables overlong
tables-passed words pairs text e =
    let p = passed (ltb 8192 (length words)) (ltb 1024 (length pairs / 2)) (ltb 16384 (length text)) (good_pairs pairs 0 (length text)) e in
    record {
      good = p.3;
      few = ltb-false 8192 (length words) p.0;
      pairs-few = ltb-false 1024 (length pairs / 2) p.1;
    }

-- what a call is asked for, where the code's test of the tables passed
pub tables-hold : (words pairs : List ℕ) (text : Bytes) {c : Result (Unit {0}) Refusal} → c ≡ check_tables words pairs text → c ≡ Ok tt → Good pairs text × (length words ≤ 8192)
tables-hold words pairs text e d = let t = tables-passed words pairs text (sym e ∙ d) in (t.good, t.few)
