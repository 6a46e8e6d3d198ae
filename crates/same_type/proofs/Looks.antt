-- What a look at two runs of words tells of the types.
use Prim.Native.Nat.{ℕ, zero, suc, ◌-◌, ◌≤◌, ◌<◌}
use mathlib.Core.Path.{◌≡◌, refl, sym, ◌∙◌}
use mathlib.Core.Bool.{Bool, true, false}
use mathlib.Core.List.{List, [], ◌∷◌}
use native.Mathlib.Omega.{arith}
use native.Mathlib.Decide.{ℕ_discrete, dec_lt}
use lib.Dec.{eqb, ltb}
use borrow.Author.Tests.{eq-eqb, ne_eqb, lt-ltb, le-ltb}
use lib.ListN.{length}
use Rattle.rast.specs.Bytes.{Bytes, same, ◌and◌}
use Rattle.rast.proofs.BytesLaws.{and-false, and_no, and_yes, same_self}
use Rattle.encoding.specs.Refusals.{pick}
use Rattle.encoding.specs.Tables.{name_bytes}
use Rattle.encoding.proofs.Tables.{impossible}
use Rattle.same_type.specs.declared.Due.{Due}
use Rattle.same_type.specs.declared.Due.TheVariants.{Kind, Exact, Sized, Root, Count, Names}
use Rattle.same_type.specs.declared.Look.{Look}
use Rattle.same_type.specs.declared.Look.TheVariants.{Same, Apart, Unclear}
use Rattle.same_type.specs.Runs.{after, after_kind, agrees, same_runs}
use Rattle.same_type.specs.Looks.{apart, alike, looks, told_apart, may_agree}
use Rattle.same_type.proofs.Words.{Steps}
use Rattle.same_type.proofs.Steps.{fixed-apart}

-- ---- two words

pub apart-same : (x y : ℕ) → x ≡ y → apart x y ≡ false
unfolding apart
apart-same x y e = rw (eq-eqb x y e) refl

pub apart-small : (x y : ℕ) → (x ≡ y → ⊥) → x < 16 → apart x y ≡ ltb y 16
unfolding apart
apart-small x y d h = rw (ne_eqb x y d, lt-ltb x 16 h) refl

pub apart-large : (x y : ℕ) → (x ≡ y → ⊥) → 16 ≤ x → apart x y ≡ false
unfolding apart
apart-large x y d h = rw (ne_eqb x y d, le-ltb x 16 h) refl

pub alike_same : (equal : Bool) (x y : ℕ) → x ≡ y → alike equal x y ≡ equal
unfolding alike
alike_same equal x y e = rw (eq-eqb x y e) refl

pub alike-other : (equal : Bool) (x y : ℕ) → (x ≡ y → ⊥) → alike equal x y ≡ false
unfolding alike
alike-other equal x y d = rw (ne_eqb x y d) refl

record Differ (x y : ℕ) : Type 0 where
  other : x ≡ y → ⊥
  first : x < 16
  second : y < 16

differ : (x y : ℕ) → apart x y ≡ true → Differ x y
differ x y e = go (ℕ_discrete x y) (dec_lt x 16) (dec_lt y 16)
  where
    go : Dec (x ≡ y) → Dec (x < 16) → Dec (y < 16) → Differ x y
    go (yes d) h k = impossible (let f = apart-same x y d in cc)
    go (no d) (no h) k = impossible (let f = apart-large x y d (omega arith) in cc)
    go (no d) (yes h) (no k) = impossible (let f = apart-small x y d h ∙ le-ltb y 16 (omega arith) in cc)
    go (no d) (yes h) (yes k) = record { other = d; first = h; second = k }

before : (x y : ℕ) → (x ≡ 0 → ⊥) → (y ≡ 0 → ⊥) → x - 1 ≡ y - 1 → x ≡ y
before zero y i j e = absurd (i refl)
before (suc x) zero i j e = absurd (j refl)
before (suc x) (suc y) i j e = omega (arith, e)

never : (pairs text : List ℕ) (due : Due) (x y : ℕ) → apart x y ≡ true → agrees (name_bytes pairs text) due x y ≡ false
unfolding agrees
never pairs text Kind x y e = ne_eqb x y (differ x y e).other
never pairs text Exact x y e = ne_eqb x y (differ x y e).other
never pairs text Sized x y e = let d = differ x y e in go (ℕ_discrete x 0) (ℕ_discrete y 0) d.other d.first d.second
  where
    go : Dec (x ≡ 0) → Dec (y ≡ 0) → (x ≡ y → ⊥) → x < 16 → y < 16
        → pick (eqb x 0) (eqb y 0) (pick (eqb y 0) false (same (name_bytes pairs text (x - 1)) (name_bytes pairs text (y - 1)))) ≡ false
    go (yes i) j d h k = rw (eq-eqb x 0 i, ne_eqb y 0 (λ f. d (i ∙ sym f))) refl
    go (no i) (yes j) d h k = rw (ne_eqb x 0 i, eq-eqb y 0 j) refl
    go (no i) (no j) d h k =
        rw (ne_eqb x 0 i, ne_eqb y 0 j) (fixed-apart pairs text (x - 1) (y - 1) (omega arith) (omega arith) (λ f. d (before x y i j f)))
never pairs text Root x y e = ne_eqb x y (differ x y e).other
never pairs text Count x y e = ne_eqb x y (differ x y e).other
never pairs text (Names n) x y e = let d = differ x y e in fixed-apart pairs text x y d.first d.second d.other

agrees-self : (name : ℕ → Bytes) (due : Due) (x : ℕ) → agrees name due x x ≡ true
unfolding agrees
agrees-self name Kind x = eq-eqb x x refl
agrees-self name Exact x = eq-eqb x x refl
agrees-self name Sized x = go (ℕ_discrete x 0)
  where
    go : Dec (x ≡ 0) → pick (eqb x 0) (eqb x 0) (pick (eqb x 0) false (same (name (x - 1)) (name (x - 1)))) ≡ true
    go (yes i) = rw (eq-eqb x 0 i) refl
    go (no i) = rw (ne_eqb x 0 i) (same_self (name (x - 1)))
agrees-self name Root x = eq-eqb x x refl
agrees-self name Count x = eq-eqb x x refl
agrees-self name (Names n) x = same_self (name x)

-- a size is due behind a kind 22 only
pick-unsized : (t : Bool) {d f : Due} → (d ≡ Sized → ⊥) → (f ≡ Sized → ⊥) → pick t d f ≡ Sized → ⊥
pick-unsized true h k e = h e
pick-unsized false h k e = k e

unsized : (due : Due) (x : ℕ) → (x ≡ 22 → ⊥) → after due x ≡ Sized → ⊥
unfolding after after_kind
unsized Kind x d =
    pick-unsized (eqb x 12) (λ e. impossible (cc)) (pick-unsized (eqb x 13) (λ e. impossible (cc)) (pick-unsized (eqb x 14) (λ e. impossible (cc))
    (pick-unsized (eqb x 19) (λ e. impossible (cc)) (pick-unsized (eqb x 20) (λ e. impossible (cc)) (λ e. pick-unsized (eqb x 24) (λ f. impossible (cc)) (λ f. impossible (cc)) (rw (ne_eqb x 22 d) at e))))))
unsized Exact x d = λ e. impossible (cc)
unsized Sized x d = λ e. impossible (cc)
unsized Root x d = λ e. impossible (cc)
unsized Count x d = pick-unsized (ltb 0 x) (λ e. impossible (cc)) (λ e. impossible (cc))
unsized (Names n) x d = pick-unsized (ltb 1 n) (λ e. impossible (cc)) (λ e. impossible (cc))

module _ (name : ℕ → Bytes) (b x y : ℕ) where
  pub may-size : b ≡ 22 → true ≡ may_agree name b x y
  unfolding may_agree
  may-size e = rw (eq-eqb b 22 e) refl

  pub may-name : {r : Bool} → (b ≡ 22 → ⊥) → r ≡ same (name x) (name y) → r ≡ may_agree name b x y
  unfolding may_agree
  may-name d e = rw (ne_eqb b 22 d) e

  record Parts : Type 0 where
    sizeless : b ≡ 22 → ⊥
    other : x ≡ y → ⊥
    names : same (name x) (name y) ≡ false

  parts : may_agree name b x y ≡ false → Parts
  parts e = go (ℕ_discrete b 22)
    where
      go : Dec (b ≡ 22) → Parts
      go (yes d) = impossible (let f = may-size d in cc)
      go (no d) =
          let n : same (name x) (name y) ≡ false = may-name d refl ∙ e in
          record { sizeless = d; other = λ i. impossible (let f = same_self (name y) in let g : same (name y) (name y) ≡ false = rw i at n in cc); names = n }

  pub may-not : may_agree name b x y ≡ false → (due : Due) → agrees name (after due b) x y ≡ false
  unfolding agrees
  may-not e due = go (after due b) (unsized due b (parts e).sizeless)
    where
      go : (d : Due) → (d ≡ Sized → ⊥) → agrees name d x y ≡ false
      go Kind h = ne_eqb x y (parts e).other
      go Exact h = ne_eqb x y (parts e).other
      go Sized h = absurd (h refl)
      go Root h = ne_eqb x y (parts e).other
      go Count h = ne_eqb x y (parts e).other
      go (Names n) h = (parts e).names

-- ---- two runs

runs-self : (name : ℕ → Bytes) (due : Due) (xs : List ℕ) → same_runs name due xs xs ≡ true
unfolding same_runs
runs-self name due [] = refl
runs-self name due (x ∷ xs) = and_yes _ (agrees-self name due x) ∙ runs-self name (after due x) xs

pub looks-apart : (pairs text : List ℕ) (due : Due) (equal : Bool) (xs ys : List ℕ) → looks equal xs ys ≡ Apart → same_runs (name_bytes pairs text) due xs ys ≡ false
unfolding looks same_runs
looks-apart pairs text due true [] ys e = impossible (cc)
looks-apart pairs text due false [] ys e = impossible (cc)
looks-apart pairs text due equal (x ∷ xs) [] e = refl
looks-apart pairs text due equal (x ∷ xs) (y ∷ ys) e = go (apart x y) refl e (looks-apart pairs text (after due x) (alike equal x y) xs ys)
  where
    go : (t : Bool) → apart x y ≡ t → pick t Apart (looks (alike equal x y) xs ys) ≡ Apart
        → (looks (alike equal x y) xs ys ≡ Apart → same_runs (name_bytes pairs text) (after due x) xs ys ≡ false)
        → (agrees (name_bytes pairs text) due x y and same_runs (name_bytes pairs text) (after due x) xs ys) ≡ false
    go true d f more = and_no _ (never pairs text due x y d)
    go false d f more = rw (more f) (and-false (agrees (name_bytes pairs text) due x y))

-- once words differ they are not the same
looks-differ : (xs ys : List ℕ) → looks false xs ys ≡ Same → ⊥
unfolding looks
looks-differ [] ys e = impossible (cc)
looks-differ (x ∷ xs) [] e = impossible (cc)
looks-differ (x ∷ xs) (y ∷ ys) e = go (apart x y) (ℕ_discrete x y) e (looks-differ xs ys)
  where
    go : (t : Bool) → Dec (x ≡ y) → pick t Apart (looks (alike false x y) xs ys) ≡ Same → (looks false xs ys ≡ Same → ⊥) → ⊥
    go true d f more = impossible (cc)
    go false (yes d) f more = more (rw (alike_same false x y d) at f)
    go false (no d) f more = more (rw (alike-other false x y d) at f)

looks-equal : (xs ys : List ℕ) → length xs ≡ length ys → looks true xs ys ≡ Same → xs ≡ ys
unfolding looks
looks-equal [] [] l e = refl
looks-equal [] (y ∷ ys) l e = impossible (omega (arith, l))
looks-equal (x ∷ xs) [] l e = impossible (cc)
looks-equal (x ∷ xs) (y ∷ ys) l e = go (apart x y) (ℕ_discrete x y) e (looks-equal xs ys (omega (arith, l)))
  where
    go : (t : Bool) → Dec (x ≡ y) → pick t Apart (looks (alike true x y) xs ys) ≡ Same → (looks true xs ys ≡ Same → xs ≡ ys) → x ∷ xs ≡ y ∷ ys
    go true d f more = impossible (cc)
    go false (yes d) f more = rw (d, more (rw (alike_same true x y d) at f)) refl
    go false (no d) f more = absurd (looks-differ xs ys (rw (alike-other true x y d) at f))

pub looks-same : (name : ℕ → Bytes) (due : Due) (xs ys : List ℕ) → length xs ≡ length ys → looks true xs ys ≡ Same → same_runs name due xs ys ≡ true
looks-same name due xs ys l e = rw (looks-equal xs ys l e) (runs-self name due ys)

pub told-apart : (pairs text : List ℕ) (due : Due) (xs ys : List ℕ) → told_apart (looks true xs ys) ≡ true → same_runs (name_bytes pairs text) due xs ys ≡ false
unfolding told_apart
told-apart pairs text due xs ys e = go (looks true xs ys) refl e
  where
    go : (k : Look) → looks true xs ys ≡ k → told_apart k ≡ true → same_runs (name_bytes pairs text) due xs ys ≡ false
    go Same d f = impossible (cc)
    go Apart d f = looks-apart pairs text due true xs ys d
    go Unclear d f = impossible (cc)

-- ---- one word after the other

pub looks-step : Steps looks (λ equal x y. apart x y) alike Apart
unfolding looks
looks-step = record { stops = λ equal x y xs ys e. rw e refl; goes = λ equal x y xs ys e. rw e refl }

pub look-same : (equal : Bool) → equal ≡ true → looks equal [] [] ≡ Same
unfolding looks
look-same equal e = rw e refl

pub look-unclear : (equal : Bool) → equal ≡ false → looks equal [] [] ≡ Unclear
unfolding looks
look-unclear equal e = rw e refl
