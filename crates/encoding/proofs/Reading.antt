-- Laws of reading at a position, and from the code's answers back to the readings.
use Rattle.std.specs.Prelude.{Ok, Err, Result, IsErrAnd}
use Prim.Native.Nat.{ℕ, zero, suc, ◌+◌, ◌-◌, ◌≤◌, ◌<◌}
use mathlib.Core.Path.{◌≡◌, refl, ap}
use mathlib.Core.List.{List}
use native.Mathlib.Omega.{arith}
use native.Mathlib.Numerals.{sub-one}
use borrow.Author.Tests.{lt-ltb, le-ltb}
use lib.ListN.{length, get_or}
use Rattle.encoding.specs.declared.Refusal.{Refusal}
use Rattle.encoding.specs.declared.Refusal.TheVariants.{EndsEarly, UnknownWord}
use Rattle.encoding.specs.Reading.{Reading, got, stop, read_word, read_below, read_names}
use Rattle.encoding.specs.Scans.{scan_of, ended, map_reading}
use Rattle.encoding.proofs.Tables.{impossible}

-- the answer that a `?` hands on
pub handed-on : {A : Type 0} {r : Result A Refusal} {k : Refusal} → IsErrAnd r (λ u. u ≡ k) → r ≡ Err k
handed-on {r = Err u} e = ap Err e
handed-on {r = Ok a} e = absurd e

-- ---- from an answer to the reading behind it

pub read-got : {A : Type 0} (x : Reading A) {r : Result (A × ℕ) Refusal} {a : A} {n : ℕ} → r ≡ scan_of x → r ≡ Ok (a, n) → x ≡ got a n
read-got {A} (got b m) {a = a} {n = n} e d = let q : ◌≡◌ {A = A × ℕ} (b, m) (a, n) = cc in ap (λ z. got z.0 z.1) q
read-got (stop k) e d = impossible (cc)

pub read-stop : {A : Type 0} (x : Reading A) {r : Result (A × ℕ) Refusal} {k : Refusal} → r ≡ scan_of x → r ≡ Err k → x ≡ stop k
read-stop (got a m) e d = impossible (cc)
read-stop (stop k) {k = k'} e d = cc

-- what was read is one value, and ends at one place
pub got-value : {A : Type 0} {a c : A} {m n : ℕ} → got a m ≡ got c n → a ≡ c
got-value e = cc

pub got-end : {A : Type 0} {a c : A} {m n : ℕ} → got a m ≡ got c n → m ≡ n
got-end e = cc

-- something was read that ends at n
pub record Read {A : Type 0} (x : Reading A) (n : ℕ) : Type 0 where
  pub value : A
  pub reads : x ≡ got value n

pub scan-got : {A : Type 0} (x : Reading A) {r : Result ℕ Refusal} {n : ℕ} → r ≡ ended x → r ≡ Ok n → Read x n
scan-got (got a m) {r} {n} e d = let q : m ≡ n = cc in record { value = a; reads = ap (got a) q }
scan-got (stop k) e d = impossible (cc)

pub scan-stop : {A : Type 0} (x : Reading A) {r : Result ℕ Refusal} {k : Refusal} → r ≡ ended x → r ≡ Err k → x ≡ stop k
scan-stop (got a m) e d = impossible (cc)
scan-stop (stop k) e d = cc

-- ---- a reading, mapped

pub map-got : {A B : Type 0} (f : A → B) {x : Reading A} {a : A} {n : ℕ} → x ≡ got a n → map_reading f x ≡ got (f a) n
unfolding map_reading
map-got f e = rw e

pub map-stop : {A B : Type 0} (f : A → B) {x : Reading A} {k : Refusal} → x ≡ stop k → map_reading f x ≡ stop k
unfolding map_reading
map-stop f e = rw e

pub map_same : {A : Type 0} (x : Reading A) → map_reading (λ a. a) x ≡ x
unfolding map_reading
map_same (got a n) = refl
map_same (stop k) = refl

-- ---- words and names

pub word_in : (ws : List ℕ) (at : ℕ) → at < length ws → read_word ws at ≡ got (get_or ws at 0) (at + 1)
unfolding read_word
word_in ws at h = rw (lt-ltb at (length ws) h)

pub word_end : (ws : List ℕ) (at : ℕ) → length ws ≤ at → read_word ws at ≡ stop EndsEarly
unfolding read_word
word_end ws at h = rw (le-ltb at (length ws) h)

pub below_in : (b : ℕ) (ws : List ℕ) (at : ℕ) → at < length ws → get_or ws at 0 < b → read_below b ws at ≡ got (get_or ws at 0) (at + 1)
unfolding read_below
below_in b ws at h k = rw (word_in ws at h, lt-ltb (get_or ws at 0) b k)

pub below_out : (b : ℕ) (ws : List ℕ) (at : ℕ) → at < length ws → b ≤ get_or ws at 0 → read_below b ws at ≡ stop UnknownWord
unfolding read_below
below_out b ws at h k = rw (word_in ws at h, le-ltb (get_or ws at 0) b k)

pub below_end : (b : ℕ) (ws : List ℕ) (at : ℕ) → length ws ≤ at → read_below b ws at ≡ stop EndsEarly
unfolding read_below
below_end b ws at h = rw (word_end ws at h)

pub names_more : (b : ℕ) (ws : List ℕ) (pos left w p : ℕ) → 0 < left → read_below b ws pos ≡ got w p
    → read_names b ws left pos ≡ read_names b ws (left - 1) p
unfolding read_names
names_more b ws pos zero w p h e = absurd (let z : ⊥ = omega arith in z)
names_more b ws pos (suc n) w p h e = rw (e, sub-one (suc n))

pub names-stop : (b : ℕ) (ws : List ℕ) (pos left : ℕ) (k : Refusal) → 0 < left → read_below b ws pos ≡ stop k → read_names b ws left pos ≡ stop k
unfolding read_names
names-stop b ws pos zero k h e = absurd (let z : ⊥ = omega arith in z)
names-stop b ws pos (suc n) k h e = rw e

pub names-none : (b : ℕ) (ws : List ℕ) (pos left : ℕ) → left ≡ 0 → read_names b ws left pos ≡ got tt pos
unfolding read_names
names-none b ws pos left e = rw e
