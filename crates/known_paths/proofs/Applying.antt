-- Applications of paths: the first argument of one of a class.
use Rattle.std.specs.Prelude.{Option, Some, None, is_some}
use Rattle.std.proofs.Common.{◌≡◌, ℕ, ◌+◌, ◌<◌, Bool, true, false, eqb, sym, refl, ◌∙◌, arith, eq-eqb, ne_eqb, eqb-true}
use Rattle.rast.specs.Bytes.{Bytes, ◌and◌}
use Rattle.rast.specs.Tree.{Path, Ty, Tys, Primitive, TIdentifier, TypeFromPath, TypeApp, Borrowed, BorrowedMut, ImplType, DynType, TupleType, FnType, IntersectionType, Array, TSynonym, TMetaData, nil, cons, count}
use Rattle.rast.proofs.BytesLaws.{and_right, and_no, and-false, and-true}
use Rattle.encoding.proofs.Tables.{impossible}
use Rattle.encoding.proofs.TypeKinds.{kind}
use Rattle.tree_words.specs.Encode.{words}
use Rattle.tree_words.specs.Places.{Place, place}
use Rattle.known_paths.specs.declared.Class.{Class}
use Rattle.known_paths.specs.declared.Class.TheVariants.{Counted, Boxed, Uninit, Placebo, ObjectClass, PtrClass, ArrayClass, Collection, MapClass}
use Rattle.known_paths.specs.Asked.{found, is_found}
use Rattle.known_paths.specs.Classes.{in_class, arity, is_of, first}
use Rattle.known_paths.specs.Matches.{on_path, applied}
use Rattle.known_paths.specs.Steps.{when, type_at_index, argument_at, argument_of}

-- ---- the match on an application of a path

-- a type is a path, or what is asked of a path is false of it
path-cases : (P : Ty Bytes → Type 0) → ((p : Path Bytes) → P (TypeFromPath p)) → ((b : Ty Bytes) → ((f : Path Bytes → Bool) → on_path f b ≡ false) → P b) → (b : Ty Bytes) → P b
unfolding on_path
path-cases P h k (Primitive x) = k (Primitive x) (λ f. refl)
path-cases P h k (TIdentifier x) = k (TIdentifier x) (λ f. refl)
path-cases P h k (TypeFromPath p) = h p
path-cases P h k (TypeApp b ts) = k (TypeApp b ts) (λ f. refl)
path-cases P h k (Borrowed t) = k (Borrowed t) (λ f. refl)
path-cases P h k (BorrowedMut t) = k (BorrowedMut t) (λ f. refl)
path-cases P h k (ImplType t) = k (ImplType t) (λ f. refl)
path-cases P h k (DynType t) = k (DynType t) (λ f. refl)
path-cases P h k (TupleType ts) = k (TupleType ts) (λ f. refl)
path-cases P h k (FnType ts t) = k (FnType ts t) (λ f. refl)
path-cases P h k (IntersectionType l r) = k (IntersectionType l r) (λ f. refl)
path-cases P h k (Array t s) = k (Array t s) (λ f. refl)
path-cases P h k (TSynonym d b) = k (TSynonym d b) (λ f. refl)
path-cases P h k (TMetaData d c o) = k (TMetaData d c o) (λ f. refl)

-- a type is an application of a path, or what is asked of one is false of it
pub applied-cases : (P : Ty Bytes → Type 0) → ((p : Path Bytes) (ts : Tys Bytes) → P (TypeApp (TypeFromPath p) ts))
    → ((t : Ty Bytes) → ((f : Path Bytes → Tys Bytes → Bool) → applied f t ≡ false) → P t) → (t : Ty Bytes) → P t
unfolding applied
applied-cases P h k (Primitive x) = k (Primitive x) (λ f. refl)
applied-cases P h k (TIdentifier x) = k (TIdentifier x) (λ f. refl)
applied-cases P h k (TypeFromPath p) = k (TypeFromPath p) (λ f. refl)
applied-cases P h k (TypeApp b ts) = path-cases (λ u. P (TypeApp u ts)) (λ p. h p ts) (λ u e. k (TypeApp u ts) (λ f. e (λ p. f p ts))) b
applied-cases P h k (Borrowed t) = k (Borrowed t) (λ f. refl)
applied-cases P h k (BorrowedMut t) = k (BorrowedMut t) (λ f. refl)
applied-cases P h k (ImplType t) = k (ImplType t) (λ f. refl)
applied-cases P h k (DynType t) = k (DynType t) (λ f. refl)
applied-cases P h k (TupleType ts) = k (TupleType ts) (λ f. refl)
applied-cases P h k (FnType ts t) = k (FnType ts t) (λ f. refl)
applied-cases P h k (IntersectionType l r) = k (IntersectionType l r) (λ f. refl)
applied-cases P h k (Array t s) = k (Array t s) (λ f. refl)
applied-cases P h k (TSynonym d b) = k (TSynonym d b) (λ f. refl)
applied-cases P h k (TMetaData d c o) = k (TMetaData d c o) (λ f. refl)

pub applied-alike : (f g : Path Bytes → Tys Bytes → Bool) → ((p : Path Bytes) (ts : Tys Bytes) → f p ts ≡ g p ts) → (t : Ty Bytes) → applied f t ≡ applied g t
unfolding applied on_path
applied-alike f g h = applied-cases (λ t. applied f t ≡ applied g t) h (λ t k. k f ∙ sym (k g))

-- a type of another kind is no application, and one with another base is none of a path
pub applied-other : (f : Path Bytes → Tys Bytes → Bool) (t : Ty Bytes) → (kind t ≡ 14 → ⊥) → applied f t ≡ false
applied-other f = applied-cases (λ t. (kind t ≡ 14 → ⊥) → applied f t ≡ false) (λ p ts h. absurd (h refl)) (λ t k h. k f)

base-other : (f : Path Bytes → Bool) (b : Ty Bytes) → (kind b ≡ 13 → ⊥) → on_path f b ≡ false
base-other f = path-cases (λ b. (kind b ≡ 13 → ⊥) → on_path f b ≡ false) (λ p h. absurd (h refl)) (λ b k h. k f)

path-false : (f : Path Bytes → Bool) (b : Ty Bytes) → ((p : Path Bytes) → f p ≡ false) → on_path f b ≡ false
unfolding on_path
path-false f b h = path-cases (λ u. on_path f u ≡ false) h (λ u k. k f) b

-- ---- whether a type is of a class

module _ (class : Class) where
  pub of_other : (t : Ty Bytes) → (kind t ≡ 14 → ⊥) → is_of class t ≡ false
  unfolding is_of
  of_other t h = applied-other _ t h

  module _ (b : Ty Bytes) (ts : Tys Bytes) where
    pub of-count : (count ts ≡ arity class → ⊥) → is_of class (TypeApp b ts) ≡ false
    unfolding is_of applied
    of-count h = path-false _ b λ p. rw (ne_eqb (count ts) (arity class) h) (and-false (in_class class p))

    pub of-base : (kind b ≡ 13 → ⊥) → is_of class (TypeApp b ts) ≡ false
    unfolding is_of applied
    of-base h = base-other _ b h

  pub of-path : (p : Path Bytes) (ts : Tys Bytes) → count ts ≡ arity class → in_class class p ≡ is_of class (TypeApp (TypeFromPath p) ts)
  unfolding is_of applied on_path
  of-path p ts h = rw (eq-eqb (count ts) (arity class) h) (sym (and-true (in_class class p)))

  pub of-no-path : (p : Path Bytes) (ts : Tys Bytes) → in_class class p ≡ false → is_of class (TypeApp (TypeFromPath p) ts) ≡ false
  unfolding is_of applied on_path
  of-no-path p ts h = and_no (eqb (count ts) (arity class)) h

-- ---- the first argument

arity-some : (class : Class) → 0 < arity class
unfolding arity
arity-some Counted = omega arith
arity-some Boxed = omega arith
arity-some Uninit = omega arith
arity-some Placebo = omega arith
arity-some ObjectClass = omega arith
arity-some PtrClass = omega arith
arity-some ArrayClass = omega arith
arity-some Collection = omega arith
arity-some MapClass = omega arith

pub first-not : (class : Class) (p : Place Bytes) → is_of class p.tpe ≡ false → found (first class p) ≡ None
unfolding first when found
first-not class p h = rw h refl

module _ (class : Class) (at : ℕ) where
  pub first-other : (t : Ty Bytes) → (kind t ≡ 14 → ⊥) → found (first class (place at t)) ≡ None
  first-other t h = first-not class (place at t) (of_other class t h)

  module _ (b : Ty Bytes) (ts : Tys Bytes) where
    pub first_count : (count ts ≡ arity class → ⊥) → found (first class (place at (TypeApp b ts))) ≡ None
    first_count h = first-not class (place at (TypeApp b ts)) (of-count class b ts h)

    pub first-base : (kind b ≡ 13 → ⊥) → found (first class (place at (TypeApp b ts))) ≡ None
    first-base h = first-not class (place at (TypeApp b ts)) (of-base class b ts h)

  module _ (p : Path Bytes) where
    pub first-class : (ts : Tys Bytes) → in_class class p ≡ false → found (first class (place at (TypeApp (TypeFromPath p) ts))) ≡ None
    first-class ts h = first-not class (place at (TypeApp (TypeFromPath p) ts)) (of-no-path class p ts h)

    pub first-is : (ts : Tys Bytes) → in_class class p ≡ true → count ts ≡ arity class
        → found (first class (place at (TypeApp (TypeFromPath p) ts))) ≡ Some (at + 2 + words (TypeFromPath p))
    unfolding is_of applied on_path first when found argument_of argument_at type_at_index count ◌and◌
    first-is nil h k = absurd (let z : ⊥ = omega (arith, arity-some class) in z)
    first-is (cons t ts) h k = rw (h, eq-eqb (count (cons t ts)) (arity class) k) refl

found_some : (x : Option (Place Bytes)) → is_found (found x) ≡ is_some x
unfolding found
found_some None = refl
found_some (Some p) = refl

index-some : (p : ℕ) (ts : Tys Bytes) → 0 < count ts → is_some (type_at_index 0 p ts) ≡ true
unfolding type_at_index count
index-some p nil h = absurd (let z : ⊥ = omega arith in z)
index-some p (cons t ts) h = refl

-- an application to at least one argument has a first one
applied-some : (f : Path Bytes → Tys Bytes → Bool) (p : ℕ) (t : Ty Bytes) → ((q : Path Bytes) (ts : Tys Bytes) → f q ts ≡ true → 0 < count ts) → applied f t ≡ true → is_some (argument_at 0 p t) ≡ true
unfolding applied on_path argument_at
applied-some f p t h =
    applied-cases (λ u. applied f u ≡ true → is_some (argument_at 0 p u) ≡ true)
    (λ q ts e. index-some (p + 2 + words (TypeFromPath q)) ts (h q ts e))
    (λ u k e. let z = k f in impossible (cc)) t

some-when : (b : Bool) (x : Option (Place Bytes)) → (b ≡ true → is_some x ≡ true) → is_some (when b x) ≡ b
unfolding when
some-when true x h = h refl
some-when false x h = refl

-- an application of a class has its first argument
pub first_found : (class : Class) (p : Place Bytes) → is_found (found (first class p)) ≡ is_of class p.tpe
unfolding first argument_of is_of
first_found class p =
    found_some (first class p)
    ∙ some-when (is_of class p.tpe) (argument_of 0 p) (applied-some _ p.at p.tpe λ q ts d.
    let k = eqb-true (count ts) (arity class) (and_right (in_class class q) (eqb (count ts) (arity class)) d) in
    omega (arith, k, arity-some class))
