-- A head's type is as it is asked to be if its own words are and the types below it are, each as the head asks it.
use Prim.Native.Nat.{ℕ, zero, suc}
use mathlib.Core.Path.{◌≡◌, refl, ap, sym, ◌∙◌}
use mathlib.Core.Bool.{Bool, true, false, not}
use mathlib.Core.List.{List}
use native.Mathlib.Omega.{arith}
use native.Mathlib.Numerals.{add-one}
use borrow.Author.Tests.{lt-ltb, ne_eqb}
use lib.Dec.{eqb, ltb}
use Rattle.rast.specs.Bytes.{Bytes, ◌and◌}
use Rattle.rast.specs.Tree.{Ty, Tys, TypeApp, Borrowed, BorrowedMut, ImplType, DynType, TupleType, FnType, IntersectionType, TSynonym, nil, cons}
use Rattle.rast.specs.Sound.{sound, sounds, is_named, is_intersection, is_empty}
use Rattle.rast.proofs.BytesLaws.{and-true, and_assoc}
use Rattle.encoding.specs.declared.Head.{Head}
use Rattle.encoding.specs.declared.Head.TheVariants.{Plain, Name, FromPath, Apply, Ref, RefMut, Impl, Dyn, Tuple, Function, Both, ArrayOf, Synonym, Meta}
use Rattle.encoding.specs.Refusals.{pick}
use Rattle.encoding.specs.Reading.{Reading, got, stop, ◌>>=◌}
use Rattle.encoding.specs.HeadWords.{kids}
use Rattle.encoding.specs.Types.{read_types, read_node}
use Rattle.encoding.proofs.Types.{made₂-got, snoc}
use Rattle.text_measure.proofs.Texts.{types_snoc, types-two}
use Rattle.sound_type.specs.Judging.{unless_judged, shape_fits, sound_as, sound_rest, sound_from, head_fits, words_sound, head_sound, first_judged, last_judged, first_ask, last_ask}

-- ---- types, one behind the other

-- there are types where more than none are read
types-any : (f : ℕ → Reading (Ty Bytes)) (n p r : ℕ) {ts : Tys Bytes} → read_types f n p ≡ got ts r → not (is_empty ts) ≡ ltb 0 n
unfolding read_types is_empty
types-any f zero p r {ts} e = let d : ts ≡ nil = cc in rw d
types-any f (suc n) p r {ts} e = let m = made₂-got (f p) (read_types f n) cons e in rw (m.made, lt-ltb 0 (suc n) (omega arith))

-- ---- what some types are asked

rest-unjudged : (ts : Tys Bytes) → sound_rest 0 ts ≡ true
unfolding sound_rest sound_as unless_judged ◌and◌
rest-unjudged nil = refl
rest-unjudged (cons t nil) = refl
rest-unjudged (cons t (cons u us)) = rest-unjudged (cons u us)

from-unjudged : (ts : Tys Bytes) → sound_from 0 0 ts ≡ true
unfolding sound_from sound_as unless_judged ◌and◌
from-unjudged nil = refl
from-unjudged (cons t ts) = rest-unjudged ts

rest-sound : (ts : Tys Bytes) → sound_rest 1 ts ≡ sounds ts
unfolding sound_rest sound_as unless_judged shape_fits sounds ◌and◌
rest-sound nil = refl
rest-sound (cons t nil) = sym (and-true (sound t))
rest-sound (cons t (cons u us)) = ap (λ s. sound t and s) (rest-sound (cons u us))

from-sound : (ts : Tys Bytes) → sound_from 1 1 ts ≡ sounds ts
unfolding sound_from sound_as unless_judged shape_fits sounds ◌and◌
from-sound nil = refl
from-sound (cons t ts) = ap (λ s. sound t and s) (rest-sound ts)

-- the parameters and the result of a function
rest-result : (ts : Tys Bytes) (t : Ty Bytes) → sound_rest 3 (snoc ts t) ≡ (sounds ts and sound_as 3 t)
unfolding sound_rest sound_as unless_judged shape_fits sounds snoc ◌and◌
rest-result nil t = refl
rest-result (cons u nil) t = ap (λ s. s and (not (is_intersection t) and sound t)) (sym (and-true (sound u)))
rest-result (cons u (cons v us)) t =
    ap (λ s. sound u and s) (rest-result (cons v us) t) ∙ sym (and_assoc (sound u) (sounds (cons v us)) (not (is_intersection t) and sound t))

from-result : (f : ℕ → Reading (Ty Bytes)) (n p r : ℕ) (ts : Tys Bytes) (t : Ty Bytes) → read_types f n p ≡ got ts r
    → sound_from (pick (eqb n 0) 3 1) 3 (snoc ts t) ≡ (sounds ts and sound_as 3 t)
unfolding read_types sound_from sound_rest sound_as unless_judged shape_fits snoc sounds ◌and◌
from-result f zero p r ts t e = let d : ts ≡ nil = cc in rw d (and-true (sound_as 3 t))
from-result f (suc n) p r ts t e =
    let m = made₂-got (f p) (read_types f n) cons e in
    rw (m.made, ne_eqb (suc n) 0 (omega arith)) (more m.left m.right)
  where
    more : (u : Ty Bytes) (us : Tys Bytes) → (sound_as 1 u and sound_rest 3 (snoc us t)) ≡ (sound u and sounds us and sound_as 3 t)
    more u us = ap (λ s. sound u and s) (rest-result us t) ∙ sym (and_assoc (sound u) (sounds us) (sound_as 3 t))

-- ---- each head

module _ (ws : List ℕ) (name : ℕ → Bytes) (ask : ℕ) where
  -- the type is as it is asked to be if its head's words and the types below it are
  Fits : Head → Ty Bytes → Tys Bytes → Type 0
  Fits h t ts = sound_as ask t ≡ (head_sound ws name ask h and sound_from (first_ask ask h) (last_ask ask h) ts)

  fits : (h : Head) (t : Ty Bytes) (ts : Tys Bytes)
      → (eqb ask 0 ≡ false → (shape_fits ask t and sound t) ≡ (head_fits ask h and words_sound ws name h and sound_from (first_judged ask h) (last_judged h) ts))
      → Fits h t ts
  unfolding Fits sound_as head_sound first_ask last_ask unless_judged ◌and◌
  fits h t ts e = go (eqb ask 0) refl
    where
      go : (b : Bool) → eqb ask 0 ≡ b
          → pick b true (shape_fits ask t and sound t)
          ≡ (pick b true (head_fits ask h and words_sound ws name h) and sound_from (pick b 0 (first_judged ask h)) (pick b 0 (last_judged h)) ts)
      go true d = sym (from-unjudged ts)
      go false d = e d

  -- neither a name nor an intersection, wrappers aside
  fits-other : (h : Head) (t : Ty Bytes) (ts : Tys Bytes) → is_named t ≡ false → is_intersection t ≡ false → head_fits ask h ≡ not (eqb ask 2)
      → sound t ≡ (words_sound ws name h and sound_from (first_judged ask h) (last_judged h) ts) → Fits h t ts
  unfolding shape_fits ◌and◌
  fits-other h t ts n i f e =
      fits h t ts (λ d. rw (n, i, f, e) (go (eqb ask 2) (eqb ask 3) (words_sound ws name h) (sound_from (first_judged ask h) (last_judged h) ts)))
    where
      go : (a b c d : Bool) → (pick a false (pick b true true) and (c and d)) ≡ (not a and c and d)
      go true b c d = refl
      go false true c d = refl
      go false false c d = refl

  -- a name or a path
  fits-named : (h : Head) (t : Ty Bytes) → is_named t ≡ true → is_intersection t ≡ false → head_fits ask h ≡ true → sound t ≡ words_sound ws name h → Fits h t nil
  unfolding shape_fits sound_from ◌and◌
  fits-named h t n i f e = fits h t nil (λ d. rw (n, i, f, e) (go (eqb ask 2) (eqb ask 3) (words_sound ws name h)))
    where
      go : (a b c : Bool) → (pick a true (pick b true true) and c) ≡ (c and true)
      go true b c = sym (and-true c)
      go false true c = sym (and-true c)
      go false false c = sym (and-true c)

  fits-apply : (n : ℕ) (b : Ty Bytes) (ts : Tys Bytes) → not (is_empty ts) ≡ ltb 0 n → Fits (Apply n) (TypeApp b ts) (cons b ts)
  unfolding sound words_sound sound_from sound_as unless_judged shape_fits is_named is_intersection ◌and◌
  fits-apply n b ts e =
      fits-other (Apply n) (TypeApp b ts) (cons b ts) refl refl refl
      (rw (e, rest-sound ts) (go (is_named b) (ltb 0 n) (sound b) (sounds ts)))
    where
      go : (a c s r : Bool) → (a and c and s and r) ≡ (c and (a and s and r))
      go true true s r = refl
      go true false s r = refl
      go false true s r = refl
      go false false s r = refl

  fits-tuple : (n : ℕ) (ts : Tys Bytes) → Fits (Tuple n) (TupleType ts) ts
  unfolding sound words_sound is_named is_intersection ◌and◌
  fits-tuple n ts = fits-other (Tuple n) (TupleType ts) ts refl refl refl (sym (from-sound ts))

  -- one type that is no intersection
  fits_under : (h : Head) (t u : Ty Bytes) → is_named t ≡ false → is_intersection t ≡ false → head_fits ask h ≡ not (eqb ask 2)
      → words_sound ws name h ≡ true → first_judged ask h ≡ 3 → sound t ≡ (not (is_intersection u) and sound u) → Fits h t (cons u nil)
  unfolding sound_from sound_rest sound_as unless_judged shape_fits ◌and◌
  fits_under h t u n i f w a e = fits-other h t (cons u nil) n i f (rw (w, a) (e ∙ sym (and-true (not (is_intersection u) and sound u))))

  fits-function : (f : ℕ → Reading (Ty Bytes)) (n p r : ℕ) (ts : Tys Bytes) (t : Ty Bytes) → read_types f n p ≡ got ts r → Fits (Function n) (FnType ts t) (snoc ts t)
  unfolding sound words_sound sound_as unless_judged shape_fits is_named is_intersection ◌and◌
  fits-function f n p r ts t e =
      fits-other (Function n) (FnType ts t) (snoc ts t) refl refl refl (rw (from-result f n p r ts t e) result)
    where
      result : (sounds ts and not (is_intersection t) and sound t) ≡ (true and (sounds ts and sound_as 3 t))
      result = and_assoc (sounds ts) (not (is_intersection t)) (sound t)

  fits_both : (l r : Ty Bytes) → Fits Both (IntersectionType l r) (cons l (cons r nil))
  unfolding sound words_sound shape_fits is_named is_intersection sound_from sound_rest sound_as unless_judged ◌and◌
  fits_both l r = fits Both (IntersectionType l r) (cons l (cons r nil)) (λ d. go (eqb ask 2) (eqb ask 3) (not (is_intersection l)) (sound l) (sound r))
    where
      go : (a b c s t : Bool) → (pick a false (pick b false true) and (c and s and t)) ≡ (not a and not b and true and (c and s and t))
      go true b c s t = refl
      go false true c s t = refl
      go false false c s t = refl

  fits-array : (s : ℕ) (t u : Ty Bytes) → is_named t ≡ false → is_intersection t ≡ false → sound t ≡ (sound u and words_sound ws name (ArrayOf s)) → Fits (ArrayOf s) t (cons u nil)
  unfolding sound_from sound_rest sound_as unless_judged shape_fits ◌and◌
  fits-array s t u n i e = fits-other (ArrayOf s) t (cons u nil) n i refl (e ∙ go (sound u) (words_sound ws name (ArrayOf s)))
    where
      go : (a b : Bool) → (a and b) ≡ (b and (a and true))
      go true true = refl
      go true false = refl
      go false true = refl
      go false false = refl

  fits-synonym : (d b : Ty Bytes) → Fits Synonym (TSynonym d b) (cons d (cons b nil))
  unfolding sound words_sound shape_fits is_named is_intersection sound_from sound_rest sound_as unless_judged ◌and◌
  fits-synonym d b =
      fits Synonym (TSynonym d b) (cons d (cons b nil)) (λ e. rw e (sym (and-true (pick (eqb ask 2) (is_named d) (pick (eqb ask 3) (not (is_intersection d)) true) and sound d))))

  fits-meta : (x : ℕ) (t d : Ty Bytes) → is_named t ≡ is_named d → is_intersection t ≡ is_intersection d → sound t ≡ sound d → Fits (Meta x) t (cons d nil)
  unfolding words_sound shape_fits sound_from sound_rest sound_as unless_judged ◌and◌
  fits-meta x t d n i s =
      fits (Meta x) t (cons d nil) (λ e. rw (e, n, i, s) (sym (and-true (pick (eqb ask 2) (is_named d) (pick (eqb ask 3) (not (is_intersection d)) true) and sound d))))

  -- ---- what follows a head's type, by whether it is as it is asked to be

  module _ (then : Bool → ℕ → Reading Bool) where
    made : (h : Head) {A : Type 0} (x : Reading A) (t : A → Ty Bytes) (ts : A → Tys Bytes)
        → ((a : A) (n : ℕ) → x ≡ got a n → Fits h (t a) (ts a))
        → ((x >>= λ a n. got (t a) n) >>= λ t n. then (sound_as ask t) n)
        ≡ ((x >>= λ a n. got (ts a) n) >>= λ ts n. then (head_sound ws name ask h and sound_from (first_ask ask h) (last_ask ask h) ts) n)
    unfolding Fits
    made h (got a n) t ts f = rw (f a n refl)
    made h (stop r) t ts f = refl

    made₂ : (h : Head) {A B : Type 0} (x : Reading A) (y : ℕ → Reading B) (t : A → B → Ty Bytes) (ts : A → B → Tys Bytes)
        → ((a : A) (b : B) (m n : ℕ) → x ≡ got a m → y m ≡ got b n → Fits h (t a b) (ts a b))
        → ((x >>= λ a m. y m >>= λ b n. got (t a b) n) >>= λ t n. then (sound_as ask t) n)
        ≡ ((x >>= λ a m. y m >>= λ b n. got (ts a b) n) >>= λ ts n. then (head_sound ws name ask h and sound_from (first_ask ask h) (last_ask ask h) ts) n)
    made₂ h (got a m) y t ts f = made h (y m) (t a) (ts a) (λ b n e. f a b m n refl e)
    made₂ h (stop r) y t ts f = refl

    kept : (h : Head) (x : Reading (Tys Bytes)) (t : Tys Bytes → Ty Bytes) → ((ts : Tys Bytes) → Fits h (t ts) ts)
        → ((x >>= λ ts n. got (t ts) n) >>= λ t n. then (sound_as ask t) n)
        ≡ (x >>= λ ts n. then (head_sound ws name ask h and sound_from (first_ask ask h) (last_ask ask h) ts) n)
    unfolding Fits
    kept h (got ts n) t f = rw (f ts)
    kept h (stop r) t f = refl

    pub node-judged : (f : ℕ → Reading (Ty Bytes)) (h : Head) (p : ℕ)
        → (read_node ws name f h p >>= λ t n. then (sound_as ask t) n)
        ≡ (read_types f (kids h) p >>= λ ts n. then (head_sound ws name ask h and sound_from (first_ask ask h) (last_ask ask h) ts) n)
    unfolding read_node read_types sound words_sound is_named is_intersection Fits ◌and◌ sound_from
    node-judged f (Plain w) p = ap (λ s. then s p) (fits-other (Plain w) _ nil refl refl refl refl)
    node-judged f (Name x) p = ap (λ s. then s p) (fits-named (Name x) _ refl refl refl refl)
    node-judged f (FromPath x) p = ap (λ s. then s p) (fits-named (FromPath x) _ refl refl refl refl)
    node-judged f (Apply n) p =
        rw (add-one n) (made₂ (Apply n) (f p) (read_types f n) TypeApp cons (λ b ts m r d e. fits-apply n b ts (types-any f n m r e)))
    node-judged f Ref p = made Ref (f p) Borrowed (λ t. cons t nil) (λ t n e. fits_under Ref (Borrowed t) t refl refl refl refl refl refl)
    node-judged f RefMut p = made RefMut (f p) BorrowedMut (λ t. cons t nil) (λ t n e. fits_under RefMut (BorrowedMut t) t refl refl refl refl refl refl)
    node-judged f Impl p = made Impl (f p) ImplType (λ t. cons t nil) (λ t n e. fits_under Impl (ImplType t) t refl refl refl refl refl refl)
    node-judged f Dyn p = made Dyn (f p) DynType (λ t. cons t nil) (λ t n e. fits_under Dyn (DynType t) t refl refl refl refl refl refl)
    node-judged f (Tuple n) p = kept (Tuple n) (read_types f n p) TupleType (λ ts. fits-tuple n ts)
    node-judged f (Function n) p =
        rw (add-one n, types_snoc f n p) (made₂ (Function n) (read_types f n p) f FnType snoc (λ ts t m r d e. fits-function f n p m ts t d))
    node-judged f Both p = rw (types-two f p) (made₂ Both (f p) f IntersectionType (λ l r. cons l (cons r nil)) (λ l r m n d e. fits_both l r))
    node-judged f (ArrayOf s) p = made (ArrayOf s) (f p) _ (λ t. cons t nil) (λ t n e. fits-array s _ t refl refl refl)
    node-judged f Synonym p = rw (types-two f p) (made₂ Synonym (f p) f TSynonym (λ d b. cons d (cons b nil)) (λ d b m n e k. fits-synonym d b))
    node-judged f (Meta x) p = made (Meta x) (f p) _ (λ t. cons t nil) (λ t n e. fits-meta x _ t refl refl refl)
