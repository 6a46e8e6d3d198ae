-- How long a type's text is: what its head adds, and the texts of its types that show.
use Prim.Native.Nat.{ℕ, zero, suc, ◌+◌, ◌*◌, ◌-◌, ◌%◌, ◌<◌}
use mathlib.Core.Path.{◌≡◌, refl, ap, sym, ◌∙◌}
use mathlib.Core.Bool.{Bool, true, false}
use mathlib.Core.List.{List, ◌++◌}
use native.Mathlib.Omega.{arith}
use native.Mathlib.Numerals.{add-one}
use native.Mathlib.Decide.{ℕ_discrete}
use borrow.Author.Tests.{ne_eqb}
use lib.Dec.{eqb, leb}
use lib.ListN.{length, length-append}
use Rattle.rast.specs.Bytes.{Bytes, ascii}
use Rattle.rast.specs.Tree.{Ty, Tys, TypeApp, Borrowed, BorrowedMut, ImplType, DynType, TupleType, FnType, IntersectionType, Array, TSynonym, TMetaData, nil, cons, count}
use Rattle.rast.specs.ToString.{size_text, Type-to_string, arguments_text, comma_text, after_text}
use Rattle.encoding.specs.declared.Head.{Head}
use Rattle.encoding.specs.declared.Head.TheVariants.{Plain, Name, FromPath, Apply, Ref, RefMut, Impl, Dyn, Tuple, Function, Both, ArrayOf, Synonym, Meta}
use Rattle.encoding.specs.Refusals.{pick}
use Rattle.encoding.specs.Reading.{Reading, got, stop, ◌>>=◌}
use Rattle.encoding.specs.Tables.{name_bytes, name_count}
use Rattle.encoding.specs.Tested.{Good, name_length}
use Rattle.encoding.specs.HeadWords.{kids, InsideHead}
use Rattle.encoding.specs.Types.{size_of, read_types, read_node}
use Rattle.encoding.proofs.Tables.{name-length}
use Rattle.encoding.proofs.Types.{snoc, count-snoc, types-count}
use Rattle.text_measure.specs.Lengths.{array_length, own_length, mode_of}
use Rattle.text_measure.specs.Levels.{shown_length}
use Rattle.text_measure.proofs.Lengths.{path-length}

-- ---- readings

pub bind_assoc : {A B C : Type 0} (x : Reading A) (f : A → ℕ → Reading B) (g : B → ℕ → Reading C) → ((x >>= f) >>= g) ≡ (x >>= λ a n. f a n >>= g)
bind_assoc (got a n) f g = refl
bind_assoc (stop r) f g = refl

pub bind-same : {A B : Type 0} (x : Reading A) (f g : A → ℕ → Reading B) → ((a : A) (n : ℕ) → x ≡ got a n → f a n ≡ g a n) → (x >>= f) ≡ (x >>= g)
bind-same (got a n) f g h = h a n refl
bind-same (stop r) f g h = refl

bind-got : {A : Type 0} (x : Reading A) → (x >>= λ a n. got a n) ≡ x
bind-got (got a n) = refl
bind-got (stop r) = refl

-- ---- lists of types

unfoldable texts_length : Tys Bytes → ℕ
texts_length nil = 0
texts_length (cons t ts) = length (Type-to_string t) + texts_length ts

snoc-over : (again : ℕ → Reading (Ty Bytes)) (t : Ty Bytes) (x : Reading (Tys Bytes))
    → ((x >>= λ ts q. again q >>= λ u r. got (snoc ts u) r) >>= λ ts r. got (cons t ts) r)
    ≡ ((x >>= λ ts q. got (cons t ts) q) >>= λ ts q. again q >>= λ u r. got (snoc ts u) r)
unfolding snoc
snoc-over again t (got ts q) = bind_assoc (again q) _ _
snoc-over again t (stop r) = refl

-- one more is read behind the others
pub types_snoc : (again : ℕ → Reading (Ty Bytes)) (k p : ℕ) → read_types again (suc k) p ≡ (read_types again k p >>= λ ts q. again q >>= λ t r. got (snoc ts t) r)
unfolding read_types snoc
types_snoc again zero p = refl
types_snoc again (suc k) p =
    bind-same (again p) _ _ (λ t q e. ap (λ x. x >>= λ ts r. got (cons t ts) r) (types_snoc again k q) ∙ snoc-over again t (read_types again k q))
    ∙ sym (bind_assoc (again p) _ _)

pub types-two : (again : ℕ → Reading (Ty Bytes)) (p : ℕ) → read_types again 2 p ≡ (again p >>= λ t q. again q >>= λ u r. got (cons t (cons u nil)) r)
unfolding read_types
types-two again p = bind-same (again p) _ _ (λ t q e. bind_assoc (again q) _ _)

after-length : (ts : Tys Bytes) → length (after_text ts) ≡ texts_length ts + 2 * count ts
unfolding Type-to_string ascii count texts_length
after-length nil = refl
after-length (cons t ts) = simp length-append (omega (arith, after-length ts))

comma-length : (ts : Tys Bytes) → length (comma_text ts) ≡ texts_length ts + 2 * (count ts - 1)
unfolding Type-to_string ascii count texts_length
comma-length nil = refl
comma-length (cons t ts) = simp length-append (omega (arith, after-length ts))

arguments-length : (ts : Tys Bytes) → length (arguments_text ts) ≡ texts_length ts + 2 * count ts
unfolding Type-to_string ascii count texts_length
arguments-length nil = refl
arguments-length (cons t ts) = simp length-append (omega (arith, after-length ts))

-- ---- the types that show

shown-all : (k : ℕ) (ts : Tys Bytes) → count ts ≡ k → shown_length 1 k ts ≡ texts_length ts
unfolding shown_length count texts_length
shown-all zero nil e = refl
shown-all zero (cons t ts) e = absurd (let z : ⊥ = omega arith in z)
shown-all (suc k) nil e = refl
shown-all (suc k) (cons t ts) e = ap (λ n. length (Type-to_string t) + n) (shown-all k ts (omega arith))

shown-none : (k : ℕ) (ts : Tys Bytes) → shown_length 0 k ts ≡ 0
unfolding shown_length
shown-none zero ts = refl
shown-none (suc k) nil = refl
shown-none (suc k) (cons t ts) = omega (arith, shown-none k ts)

snoc-length : (ts : Tys Bytes) (t : Ty Bytes) → texts_length (snoc ts t) ≡ texts_length ts + length (Type-to_string t)
unfolding texts_length snoc
snoc-length nil t = omega arith
snoc-length (cons u us) t = omega (arith, snoc-length us t)

-- ---- a type and its head

-- a text from its parts, unless it is hidden
part_length : (s : Bool) (m k own : ℕ) (ts : Tys Bytes) {n : ℕ} → n ≡ own + shown_length m k ts → pick s 0 n ≡ pick s 0 own + shown_length (pick s 0 m) k ts
part_length true m k own ts e = omega (arith, shown-none k ts)
part_length false m k own ts e = e

bracketed : (x y : Bytes) → length (ascii "[" ++ x ++ y ++ ascii "]") ≡ 2 + length y + length x
unfolding ascii
bracketed x y = simp length-append (omega arith)

array-length : (pairs : List ℕ) (text : Bytes) → Good pairs text → (s : ℕ) → s < name_count pairs + 1
    → array_length (name_length pairs) s ≡ 2 + length (size_text (size_of (name_bytes pairs text) s))
unfolding size_text ascii size_of array_length
array-length pairs text good s h = go (ℕ_discrete s 0)
  where
    go : Dec (s ≡ 0) → array_length (name_length pairs) s ≡ 2 + length (size_text (size_of (name_bytes pairs text) s))
    go (yes e) = rw e
    go (no e) = rw (ne_eqb s 0 e) (omega (arith, name-length pairs text (s - 1) good (omega arith)))

module _ (ws pairs : List ℕ) (text : Bytes) (good : Good pairs text) (again : ℕ → Reading (Ty Bytes)) {B : Type 0} (g : ℕ → ℕ → Reading B) (s : Bool) where
  one-read : {A : Type 0} (x : Reading A) (c : A → Ty Bytes) (l : A → Tys Bytes) (m k own : ℕ)
      → ((a : A) (q : ℕ) → x ≡ got a q → length (Type-to_string (c a)) ≡ own + shown_length m k (l a))
      → ((x >>= λ a q. got (c a) q) >>= λ t r. g (pick s 0 (length (Type-to_string t))) r)
      ≡ ((x >>= λ a q. got (l a) q) >>= λ ts r. g (pick s 0 own + shown_length (pick s 0 m) k ts) r)
  one-read (got a q) c l m k own e = ap (λ n. g n q) (part_length s m k own (l a) (e a q refl))
  one-read (stop r) c l m k own e = refl

  two-read : {A C : Type 0} (x : Reading A) (y : A → ℕ → Reading C) (c : A → C → Ty Bytes) (l : A → C → Tys Bytes) (m k own : ℕ)
      → ((a : A) (b : C) (q r : ℕ) → x ≡ got a q → y a q ≡ got b r → length (Type-to_string (c a b)) ≡ own + shown_length m k (l a b))
      → ((x >>= λ a q. y a q >>= λ b r. got (c a b) r) >>= λ t r. g (pick s 0 (length (Type-to_string t))) r)
      ≡ ((x >>= λ a q. y a q >>= λ b r. got (l a b) r) >>= λ ts r. g (pick s 0 own + shown_length (pick s 0 m) k ts) r)
  two-read (got a q) y c l m k own e = one-read (y a q) (c a) (l a) m k own (λ b r d. e a b q r refl d)
  two-read (stop r) y c l m k own e = refl

  -- a head that adds `own` bytes to those of its one type
  around : (c : Ty Bytes → Ty Bytes) (own p : ℕ) → ((t : Ty Bytes) → length (Type-to_string (c t)) ≡ own + length (Type-to_string t))
      → ((again p >>= λ t q. got (c t) q) >>= λ t r. g (pick s 0 (length (Type-to_string t))) r)
      ≡ (read_types again 1 p >>= λ ts r. g (pick s 0 own + shown_length (pick s 0 1) 1 ts) r)
  unfolding read_types shown_length
  around c own p e = one-read (again p) c (λ t. cons t nil) 1 1 own (λ t q d. omega (arith, e t))

  apply-length : (n p : ℕ)
      → ((again p >>= λ b q. read_types again n q >>= λ ts r. got (TypeApp b ts) r) >>= λ t r. g (pick s 0 (length (Type-to_string t))) r)
      ≡ (read_types again (n + 1) p >>= λ ts r. g (pick s 0 (2 * n) + shown_length (pick s 0 1) (n + 1) ts) r)
  unfolding read_types shown_length Type-to_string
  apply-length n p =
      rw (add-one n) (two-read (again p) (λ b q. read_types again n q) TypeApp cons 1 (suc n) (2 * n)
      (λ b ts q r d e. simp length-append (omega (arith, arguments-length ts, types-count again n q e, shown-all n ts (types-count again n q e)))))

  tuple-length : (n p : ℕ)
      → ((read_types again n p >>= λ ts q. got (TupleType ts) q) >>= λ t r. g (pick s 0 (length (Type-to_string t))) r)
      ≡ (read_types again n p >>= λ ts r. g (pick s 0 (2 + 2 * (n - 1)) + shown_length (pick s 0 1) n ts) r)
  unfolding Type-to_string ascii
  tuple-length n p =
      one-read (read_types again n p) TupleType (λ ts. ts) 1 n (2 + 2 * (n - 1))
      (λ ts q e. simp length-append (omega (arith, comma-length ts, types-count again n p e, shown-all n ts (types-count again n p e))))
      ∙ ap (λ x. x >>= λ ts r. g (pick s 0 (2 + 2 * (n - 1)) + shown_length (pick s 0 1) n ts) r) (bind-got (read_types again n p))

  function-length : (n p : ℕ)
      → ((read_types again n p >>= λ ts q. again q >>= λ t r. got (FnType ts t) r) >>= λ t r. g (pick s 0 (length (Type-to_string t))) r)
      ≡ (read_types again (n + 1) p >>= λ ts r. g (pick s 0 (20 + 2 * (n - 1)) + shown_length (pick s 0 1) (n + 1) ts) r)
  unfolding Type-to_string ascii
  function-length n p =
      rw (add-one n, types_snoc again n p) (two-read (read_types again n p) (λ ts q. again q) FnType snoc 1 (suc n) (20 + 2 * (n - 1))
      (λ ts t q r d e. simp length-append (omega (
        arith,
        comma-length ts,
        types-count again n p d,
        snoc-length ts t,
        shown-all (suc n) (snoc ts t) (let k = count-snoc ts t in let m = types-count again n p d in omega arith),
      ))))

  both-length : (c : Ty Bytes → Ty Bytes → Ty Bytes) (m own p : ℕ)
      → ((t u : Ty Bytes) → length (Type-to_string (c t u)) ≡ own + shown_length m 2 (cons t (cons u nil)))
      → ((again p >>= λ t q. again q >>= λ u r. got (c t u) r) >>= λ t r. g (pick s 0 (length (Type-to_string t))) r)
      ≡ (read_types again 2 p >>= λ ts r. g (pick s 0 own + shown_length (pick s 0 m) 2 ts) r)
  both-length c m own p e =
      rw (types-two again p) (two-read (again p) (λ t q. again q) c (λ t u. cons t (cons u nil)) m 2 own (λ t u q r d f. e t u))

  -- what follows a type whose head is read takes its length, unless it is hidden, from its head and its types
  pub node-length : (h : Head) (p : ℕ) → InsideHead (name_count pairs) ws h
      → (read_node ws (name_bytes pairs text) again h p >>= λ t r. g (pick s 0 (length (Type-to_string t))) r)
      ≡ (read_types again (kids h) p >>= λ ts r. g (pick s 0 (own_length ws (name_length pairs) h) + shown_length (pick s 0 (mode_of h)) (kids h) ts) r)
  unfolding read_node read_types own_length shown_length Type-to_string ascii
  node-length (Plain w) p i = ap (λ n. g n p) (part_length s 1 0 _ nil (omega arith))
  node-length (Name x) p i = ap (λ n. g n p) (part_length s 1 0 _ nil (omega (arith, name-length pairs text x good i)))
  node-length (FromPath x) p i = ap (λ n. g n p) (part_length s 1 0 _ nil (omega (arith, path-length ws pairs text good x i)))
  node-length (Apply n) p i = apply-length n p
  node-length Ref p i = around Borrowed 1 p (λ t. omega arith)
  node-length RefMut p i = around BorrowedMut 5 p (λ t. omega arith)
  node-length Impl p i = around ImplType 5 p (λ t. omega arith)
  node-length Dyn p i = around DynType 4 p (λ t. omega arith)
  node-length (Tuple n) p i = tuple-length n p
  node-length (Function n) p i = function-length n p
  node-length Both p i = both-length IntersectionType 1 3 p (λ t u. simp length-append (omega arith))
  node-length (ArrayOf x) p i = around (λ t. Array t (size_of (name_bytes pairs text) x)) (array_length (name_length pairs) x) p
      (λ t. omega (arith, array-length pairs text good x i, bracketed (Type-to_string t) (size_text (size_of (name_bytes pairs text) x))))
  node-length Synonym p i = both-length TSynonym 2 0 p (λ t u. omega arith)
  node-length (Meta x) p i = around (λ t. TMetaData t (eqb (x % 2) 1) (leb 2 x)) 0 p (λ t. omega arith)
