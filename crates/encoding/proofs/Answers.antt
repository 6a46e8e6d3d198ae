-- Laws of answers: mapped, behind a test, and laid into a buffer.
use Rattle.std.specs.Prelude.{Ok, Err, Result}
use Prim.Native.Nat.{ℕ, ◌≤◌, ◌<◌}
use mathlib.Core.Path.{◌≡◌, refl, ap, ◌∙◌}
use mathlib.Core.Bool.{Bool, true, false}
use mathlib.Core.List.{List}
use borrow.Author.Tests.{eqb-true, le-leb, lt-leb, eq-eqb, ne_eqb}
use lib.Dec.{eqb}
use lib.ListN.{length}
use lib.Seq.{sets}
use Rattle.buffer.proofs.Laws.{sets-front}
use Rattle.rast.specs.Bytes.{Bytes}
use Rattle.encoding.specs.declared.Refusal.{Refusal}
use Rattle.encoding.specs.declared.Refusal.TheVariants.{LeftOver, BufferTooShort}
use Rattle.encoding.specs.Refusals.{pick, Answer, map_answer, unless}
use Rattle.encoding.specs.Reading.{Reading, got, stop, whole}
use Rattle.encoding.specs.Tables.{check_level, check_tables}
use Rattle.encoding.specs.Tested.{behind, check_call}
use Rattle.encoding.specs.Filled.{filled}
use Rattle.encoding.proofs.Tables.{impossible}

pub map-twice : {A B C : Type 0} (f : B → C) (g : A → B) (x : Answer A) → map_answer f (map_answer g x) ≡ map_answer (λ a. f (g a)) x
unfolding map_answer
map-twice f g (Ok a) = refl
map-twice f g (Err r) = refl

pub map-unless : {A B : Type 0} (f : A → B) (c : Result (Unit {0}) Refusal) (x : Answer A) → map_answer f (unless c x) ≡ unless c (map_answer f x)
unfolding map_answer unless
map-unless f (Ok tt) x = refl
map-unless f (Err r) x = refl

-- what is given behind a test was read to the end
pub given-whole : {A : Type 0} (c : Result (Unit {0}) Refusal) (size : ℕ) (x : Reading A) {a : A} → unless c (whole size x) ≡ Ok a → (c ≡ Ok tt) × (x ≡ got a size)
unfolding unless whole
given-whole (Err k) size x e = impossible (cc)
given-whole (Ok tt) size (stop k) e = impossible (cc)
given-whole (Ok tt) size (got u n) {a} e = (refl, fit (eqb n size) refl e)
  where
    fit : (t : Bool) → eqb n size ≡ t → pick t (Ok u) (Err LeftOver) ≡ Ok a → got u n ≡ got a size
    fit true k e = let i : u ≡ a = cc in let j = eqb-true n size k in cc
    fit false k e = impossible (cc)

-- ---- what is tested before anything is printed

pub call-passed : (ws pairs : List ℕ) (text : Bytes) (level : ℕ) → check_call ws pairs text level ≡ Ok tt → (check_level level ≡ Ok tt) × (check_tables ws pairs text ≡ Ok tt)
unfolding check_call
call-passed ws pairs text level e = go (check_level level) e
  where
    go : (c : Result (Unit {0}) Refusal) → behind c (check_tables ws pairs text) ≡ Ok tt → (c ≡ Ok tt) × (check_tables ws pairs text ≡ Ok tt)
    go (Ok tt) e = (refl, e)
    go (Err r) e = impossible (cc)

pub call-unless : {A : Type 0} (ws pairs : List ℕ) (text : Bytes) (level : ℕ) (x : Answer A) → unless (check_call ws pairs text level) x ≡ unless (check_level level) (unless (check_tables ws pairs text) x)
unfolding check_call unless
call-unless ws pairs text level x = go (check_level level)
  where
    go : (c : Result (Unit {0}) Refusal) → unless (behind c (check_tables ws pairs text)) x ≡ unless c (unless (check_tables ws pairs text) x)
    go (Ok tt) = refl
    go (Err r) = refl

-- ---- laid into a buffer

module _ (o : List ℕ) where
  -- a test that passed leaves the answer as it is
  pub filled-passed : (c : Result (Unit {0}) Refusal) (x : Answer (List ℕ)) {p : Answer ℕ × List ℕ} → c ≡ Ok tt → p ≡ filled o x → p ≡ filled o (unless c x)
  unfolding unless
  filled-passed c x e h = rw e h

  -- and one that failed is the answer
  pub filled-failed : (c : Result (Unit {0}) Refusal) (x : Answer (List ℕ)) {k : Refusal} → c ≡ Err k → ◌≡◌ {A = Answer ℕ × List ℕ} (Err k, o) (filled o (unless c x))
  unfolding unless filled
  filled-failed c x e = rw e

  -- the same of what is tested before anything is printed
  module _ (ws pairs : List ℕ) (text : Bytes) (level : ℕ) (x : Answer (List ℕ)) where
    pub call-filled : {p : Answer ℕ × List ℕ} → check_call ws pairs text level ≡ Ok tt → p ≡ filled o x → p ≡ filled o (unless (check_level level) (unless (check_tables ws pairs text) x))
    call-filled e h = filled-passed (check_call ws pairs text level) x e h ∙ ap (filled o) (call-unless ws pairs text level x)

    pub call-refused : {k : Refusal} → check_call ws pairs text level ≡ Err k → ◌≡◌ {A = Answer ℕ × List ℕ} (Err k, o) (filled o (unless (check_level level) (unless (check_tables ws pairs text) x)))
    call-refused e = filled-failed (check_call ws pairs text level) x e ∙ ap (filled o) (call-unless ws pairs text level x)

  -- the answers of a call that reads x to the end of `size` words, and lays down f of what it read
  module _ {A : Type 0} (f : A → List ℕ) (size : ℕ) (x : Reading A) where
    pub filled-stop : {k : Refusal} → x ≡ stop k → ◌≡◌ {A = Answer ℕ × List ℕ} (Err k, o) (filled o (map_answer f (whole size x)))
    unfolding filled map_answer whole
    filled-stop e = rw e

    pub filled-left : {a : A} {n : ℕ} → x ≡ got a n → (n ≡ size → ⊥) → ◌≡◌ {A = Answer ℕ × List ℕ} (Err LeftOver, o) (filled o (map_answer f (whole size x)))
    unfolding filled map_answer whole
    filled-left {n = n} e h = rw (e, ne_eqb n size h)

    pub filled-short : {a : A} {n : ℕ} → x ≡ got a n → n ≡ size → length o < length (f a) → ◌≡◌ {A = Answer ℕ × List ℕ} (Err BufferTooShort, o) (filled o (map_answer f (whole size x)))
    unfolding filled map_answer whole
    filled-short {a} {n} e h k = rw (e, eq-eqb n size h, lt-leb (length (f a)) (length o) k)

    pub filled-done : {a : A} {n : ℕ} {o' : List ℕ} (b : ℕ) → x ≡ got a n → n ≡ size → length (f a) ≤ length o → b ≡ length (f a) → o' ≡ sets o 0 (f a)
        → ◌≡◌ {A = Answer ℕ × List ℕ} (Ok b, o') (filled o (map_answer f (whole size x)))
    unfolding filled map_answer whole
    filled-done {a} {n} b e h k l w = rw (e, eq-eqb n size h, le-leb (length (f a)) (length o) k, l, w, sets-front (f a) o k)
