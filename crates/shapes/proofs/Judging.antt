-- What each shape answer is, by the kind of the type and by the types in it.
use Rattle.std.specs.Prelude.{Option, Some, None}
use Prim.Native.Nat.{ℕ, ◌+◌, ◌-◌, ◌%◌, ◌≤◌, ◌<◌}
use mathlib.Core.Path.{◌≡◌, refl, ap, sym, ◌∙◌}
use mathlib.Core.Bool.{Bool, true, false}
use mathlib.Core.List.{List}
use native.Mathlib.Omega.{arith}
use borrow.Author.Tests.{eq-eqb, ne_eqb}
use lib.Dec.{eqb, leb, ltb}
use lib.ListN.{get_or}
use Rattle.rast.specs.Bytes.{Bytes, ◌and◌, ◌or◌}
use Rattle.rast.specs.Tree.{PrimitiveTy, U8, U16, U32, U64, U128, I8, I16, I32, I64, I128, USIZE, Bool·, Ty, Primitive, TIdentifier, TypeFromPath, TypeApp, Borrowed, BorrowedMut, ImplType, DynType, TupleType, FnType, IntersectionType, Array, TSynonym, TMetaData}
use Rattle.rast.specs.DeclarationToString.{Expand}
use Rattle.rast.proofs.BytesLaws.{or-true, or-false}
use Rattle.encoding.specs.Tables.{name_bytes}
use Rattle.encoding.specs.Reading.{Reading, got}
use Rattle.encoding.specs.Types.{size_of, type_at}
use Rattle.encoding.proofs.Tables.{impossible, every_below, every-equal}
use Rattle.encoding.proofs.TypeKinds.{primitive_kind, kind, type-kind}
use Rattle.tree_words.specs.Places.{Place, place}
use Rattle.unwrap.specs.Asked.{Judges, ExpandsAt}
use Rattle.unwrap.proofs.TypesIn.{ref-of, mut_of, array_of, meta-of}
use Rattle.known_paths.specs.declared.Class.{Class}
use Rattle.known_paths.specs.declared.Class.TheVariants.{Counted, Uninit, PtrClass, ArrayClass}
use Rattle.known_paths.specs.Asked.{Finds, found, is_found}
use Rattle.known_paths.specs.Classes.{in_class, arity, is_of, first}
use Rattle.known_paths.specs.Matches.{applied}
use Rattle.shapes.specs.Accepted.{name_step, name_kind}
use Rattle.shapes.specs.Parts.{removed_at, owned_at, ObjectOrPointerUnderlying}
use Rattle.shapes.specs.Shapes.{is_fixed_number, is_number, is_bool, EndsWithNameThatCanAcceptGenerics, IsAutoSize, CanReadWithoutClone, IsRcOrBorrowedRc, IsUninitArray, IsBox, NeedsAsRefForBorrow, IsPointer, IsRc}
use Rattle.known_paths.proofs.Children.{ref-below, mut-below, impl-below, dyn-below, display-below, meta-below}
use Rattle.known_paths.proofs.Finding.{located, nowhere, first-keeps}
use Rattle.shapes.proofs.Elements.{holds_uninit, holds-unsized, holds-sized, holds-first, holds-none, uninit-array-is, uninit-array-none}
use Rattle.unwrap.proofs.Going.{Going, going-to, going-meta, arrived, arrived-by}
use Rattle.shapes.proofs.Parts.{pointer-keeps}

primitive-below : (p : PrimitiveTy) → primitive_kind p < 12
primitive-below U8 = omega arith
primitive-below U16 = omega arith
primitive-below U32 = omega arith
primitive-below U64 = omega arith
primitive-below U128 = omega arith
primitive-below I8 = omega arith
primitive-below I16 = omega arith
primitive-below I32 = omega arith
primitive-below I64 = omega arith
primitive-below I128 = omega arith
primitive-below USIZE = omega arith
primitive-below Bool· = omega arith

-- ---- `RemoveSynonyms` and `ToOwned`

abbrev pub removed_to : ℕ → Ty Bytes → ℕ
removed_to p t = (removed_at p t).at

pub removed-display : (p : ℕ) (d b : Ty Bytes) → removed_to p (TSynonym d b) ≡ removed_to (p + 1) d
unfolding removed_at
removed-display p d b = refl

pub removed-meta : (p : ℕ) (c o : Bool) (d : Ty Bytes) → removed_to p (TMetaData d c o) ≡ removed_to (p + 2) d
unfolding removed_at
removed-meta p c o d = refl

pub removed-here : (p : ℕ) (t : Ty Bytes) → (kind t ≡ 23 → ⊥) → (kind t ≡ 24 → ⊥) → p ≡ removed_to p t
unfolding removed_at
removed-here p (Primitive x) h k = refl
removed-here p (TIdentifier x) h k = refl
removed-here p (TypeFromPath x) h k = refl
removed-here p (TypeApp b ts) h k = refl
removed-here p (Borrowed t) h k = refl
removed-here p (BorrowedMut t) h k = refl
removed-here p (ImplType t) h k = refl
removed-here p (DynType t) h k = refl
removed-here p (TupleType ts) h k = refl
removed-here p (FnType ts t) h k = refl
removed-here p (IntersectionType l r) h k = refl
removed-here p (Array t s) h k = refl
removed-here p (TSynonym d b) h k = absurd (h refl)
removed-here p (TMetaData d c o) h k = absurd (k refl)

owned-other : (p : ℕ) (t : Ty Bytes) → (kind t ≡ 15 → ⊥) → (kind t ≡ 16 → ⊥) → p ≡ (owned_at p t).at
unfolding owned_at
owned-other p (Primitive x) h k = refl
owned-other p (TIdentifier x) h k = refl
owned-other p (TypeFromPath x) h k = refl
owned-other p (TypeApp b ts) h k = refl
owned-other p (Borrowed t) h k = absurd (h refl)
owned-other p (BorrowedMut t) h k = absurd (k refl)
owned-other p (ImplType t) h k = refl
owned-other p (DynType t) h k = refl
owned-other p (TupleType ts) h k = refl
owned-other p (FnType ts t) h k = refl
owned-other p (IntersectionType l r) h k = refl
owned-other p (Array t s) h k = refl
owned-other p (TSynonym d b) h k = refl
owned-other p (TMetaData d c o) h k = refl

-- ---- `IsRcOrBorrowedRc`

pub rc-ref : (u : Ty Bytes) → IsRcOrBorrowedRc (Borrowed u) ≡ IsRcOrBorrowedRc u
unfolding IsRcOrBorrowedRc IsRc applied
rc-ref u = refl

pub rc-base : (d b : Ty Bytes) → IsRcOrBorrowedRc (TSynonym d b) ≡ IsRcOrBorrowedRc b
unfolding IsRcOrBorrowedRc IsRc applied
rc-base d b = refl

pub rc-here : (t : Ty Bytes) → (kind t ≡ 15 → ⊥) → (kind t ≡ 23 → ⊥) → is_of Counted t ≡ IsRcOrBorrowedRc t
unfolding IsRcOrBorrowedRc IsRc is_of in_class arity
rc-here (Primitive x) h k = refl
rc-here (TIdentifier x) h k = refl
rc-here (TypeFromPath x) h k = refl
rc-here (TypeApp b ts) h k = refl
rc-here (Borrowed t) h k = absurd (h refl)
rc-here (BorrowedMut t) h k = refl
rc-here (ImplType t) h k = refl
rc-here (DynType t) h k = refl
rc-here (TupleType ts) h k = refl
rc-here (FnType ts t) h k = refl
rc-here (IntersectionType l r) h k = refl
rc-here (Array t s) h k = refl
rc-here (TSynonym d b) h k = absurd (k refl)
rc-here (TMetaData d c o) h k = refl

-- ---- `CanReadWithoutClone`

or-three : (a b c : Bool) → (a or (a or b or c)) ≡ (a or b or c)
or-three true b c = refl
or-three false b c = refl

-- a number is read without a clone
auto-can : (t : Ty Bytes) → (IsAutoSize t or CanReadWithoutClone t) ≡ CanReadWithoutClone t
unfolding IsAutoSize CanReadWithoutClone
auto-can (Primitive p) = or-three (is_number p) (is_bool p) (IsPointer (Primitive p))
auto-can (TIdentifier x) = refl
auto-can (TypeFromPath x) = refl
auto-can (TypeApp b ts) = refl
auto-can (Borrowed t) = refl
auto-can (BorrowedMut t) = refl
auto-can (ImplType t) = refl
auto-can (DynType t) = refl
auto-can (TupleType ts) = refl
auto-can (FnType ts t) = refl
auto-can (IntersectionType l r) = refl
auto-can (Array t s) = refl
auto-can (TSynonym d b) = or-three (IsAutoSize b) (IsPointer (TSynonym d b)) (CanReadWithoutClone b)
auto-can (TMetaData d c o) = or-three (IsAutoSize d) (IsPointer (TMetaData d c o)) (c or CanReadWithoutClone d)

pub can-base : (d b : Ty Bytes) → CanReadWithoutClone (TSynonym d b) ≡ CanReadWithoutClone b
unfolding CanReadWithoutClone IsAutoSize IsPointer applied
can-base d b = ap (λ x. x or CanReadWithoutClone b) (or-false (IsAutoSize b)) ∙ auto-can b

pub can-copy : (d : Ty Bytes) (c o : Bool) → c ≡ true → true ≡ CanReadWithoutClone (TMetaData d c o)
unfolding CanReadWithoutClone IsAutoSize IsPointer applied
can-copy d c o h = rw h (sym (or-true (IsAutoSize d or false)))

pub can-display : (d : Ty Bytes) (c o : Bool) → c ≡ false → CanReadWithoutClone (TMetaData d c o) ≡ CanReadWithoutClone d
unfolding CanReadWithoutClone IsAutoSize IsPointer applied
can-display d c o h = rw h (ap (λ x. x or CanReadWithoutClone d) (or-false (IsAutoSize d)) ∙ auto-can d)

can-number : (p : PrimitiveTy) → true ≡ CanReadWithoutClone (Primitive p)
unfolding CanReadWithoutClone IsAutoSize is_number is_bool
can-number U8 = refl
can-number U16 = refl
can-number U32 = refl
can-number U64 = refl
can-number U128 = refl
can-number I8 = refl
can-number I16 = refl
can-number I32 = refl
can-number I64 = refl
can-number I128 = refl
can-number USIZE = refl
can-number Bool· = refl

pub can-plain : (t : Ty Bytes) → kind t < 12 → true ≡ CanReadWithoutClone t
can-plain (Primitive p) h = can-number p
can-plain (TIdentifier x) h = absurd (let z : ⊥ = omega arith in z)
can-plain (TypeFromPath x) h = absurd (let z : ⊥ = omega arith in z)
can-plain (TypeApp b ts) h = absurd (let z : ⊥ = omega arith in z)
can-plain (Borrowed t) h = absurd (let z : ⊥ = omega arith in z)
can-plain (BorrowedMut t) h = absurd (let z : ⊥ = omega arith in z)
can-plain (ImplType t) h = absurd (let z : ⊥ = omega arith in z)
can-plain (DynType t) h = absurd (let z : ⊥ = omega arith in z)
can-plain (TupleType ts) h = absurd (let z : ⊥ = omega arith in z)
can-plain (FnType ts t) h = absurd (let z : ⊥ = omega arith in z)
can-plain (IntersectionType l r) h = absurd (let z : ⊥ = omega arith in z)
can-plain (Array t s) h = absurd (let z : ⊥ = omega arith in z)
can-plain (TSynonym d b) h = absurd (let z : ⊥ = omega arith in z)
can-plain (TMetaData d c o) h = absurd (let z : ⊥ = omega arith in z)

pub can-here : (t : Ty Bytes) → 12 ≤ kind t → (kind t ≡ 23 → ⊥) → (kind t ≡ 24 → ⊥) → is_of PtrClass t ≡ CanReadWithoutClone t
unfolding CanReadWithoutClone IsAutoSize IsPointer is_of in_class arity
can-here (Primitive p) h k l = absurd (let z : ⊥ = omega (arith, primitive-below p) in z)
can-here (TIdentifier x) h k l = refl
can-here (TypeFromPath x) h k l = refl
can-here (TypeApp b ts) h k l = refl
can-here (Borrowed t) h k l = refl
can-here (BorrowedMut t) h k l = refl
can-here (ImplType t) h k l = refl
can-here (DynType t) h k l = refl
can-here (TupleType ts) h k l = refl
can-here (FnType ts t) h k l = refl
can-here (IntersectionType l r) h k m = refl
can-here (Array t s) h k l = refl
can-here (TSynonym d b) h k l = absurd (k refl)
can-here (TMetaData d c o) h k l = absurd (l refl)

-- ---- `IsAutoSize`

auto-number : (p : PrimitiveTy) → ltb (primitive_kind p) 11 ≡ is_number p
unfolding is_number
auto-number U8 = refl
auto-number U16 = refl
auto-number U32 = refl
auto-number U64 = refl
auto-number U128 = refl
auto-number I8 = refl
auto-number I16 = refl
auto-number I32 = refl
auto-number I64 = refl
auto-number I128 = refl
auto-number USIZE = refl
auto-number Bool· = refl

auto-kind : (t : Ty Bytes) → ltb (kind (Expand t)) 11 ≡ IsAutoSize t
unfolding Expand IsAutoSize
auto-kind (Primitive p) = auto-number p
auto-kind (TIdentifier x) = refl
auto-kind (TypeFromPath x) = refl
auto-kind (TypeApp b ts) = refl
auto-kind (Borrowed t) = refl
auto-kind (BorrowedMut t) = refl
auto-kind (ImplType t) = refl
auto-kind (DynType t) = refl
auto-kind (TupleType ts) = refl
auto-kind (FnType ts t) = refl
auto-kind (IntersectionType l r) = refl
auto-kind (Array t s) = refl
auto-kind (TSynonym d b) = auto-kind b
auto-kind (TMetaData d c o) = auto-kind d

-- ---- `EndsWithNameThatCanAcceptGenerics`

step-plain : (w : ℕ) → w < 12 → name_step w ≡ 0
unfolding name_step every_below ◌and◌
step-plain w h = every-equal name_step (λ i. 0) 12 refl w h

name-number : (p : PrimitiveTy) → name_kind (primitive_kind p) ≡ is_fixed_number p
unfolding name_kind is_fixed_number
name-number U8 = refl
name-number U16 = refl
name-number U32 = refl
name-number U64 = refl
name-number U128 = refl
name-number I8 = refl
name-number I16 = refl
name-number I32 = refl
name-number I64 = refl
name-number I128 = refl
name-number USIZE = refl
name-number Bool· = refl

pub name-here : (t : Ty Bytes) → (kind t ≡ 21 → ⊥) → name_step (kind t) ≡ 0 → name_kind (kind t) ≡ EndsWithNameThatCanAcceptGenerics t
unfolding EndsWithNameThatCanAcceptGenerics name_step name_kind
name-here (Primitive p) h k = name-number p
name-here (TIdentifier x) h k = refl
name-here (TypeFromPath x) h k = refl
name-here (TypeApp b ts) h k = refl
name-here (Borrowed t) h k = impossible (let z : ◌≡◌ {A = ℕ} 0 1 = omega (arith, k) in z)
name-here (BorrowedMut t) h k = impossible (let z : ◌≡◌ {A = ℕ} 0 1 = omega (arith, k) in z)
name-here (ImplType t) h k = impossible (let z : ◌≡◌ {A = ℕ} 0 1 = omega (arith, k) in z)
name-here (DynType t) h k = impossible (let z : ◌≡◌ {A = ℕ} 0 1 = omega (arith, k) in z)
name-here (TupleType ts) h k = refl
name-here (FnType ts t) h k = refl
name-here (IntersectionType l r) h k = absurd (h refl)
name-here (Array t s) h k = refl
name-here (TSynonym d b) h k = impossible (let z : ◌≡◌ {A = ℕ} 0 1 = omega (arith, k) in z)
name-here (TMetaData d c o) h k = impossible (let z : ◌≡◌ {A = ℕ} 0 1 = omega (arith, k) in z)

pub name-right : (l r : Ty Bytes) → EndsWithNameThatCanAcceptGenerics (IntersectionType l r) ≡ EndsWithNameThatCanAcceptGenerics r
unfolding EndsWithNameThatCanAcceptGenerics
name-right l r = refl

abbrev pub ends_at : ℕ → Ty Bytes → Bool
ends_at p t = EndsWithNameThatCanAcceptGenerics t

-- the type that the question goes on to
record Step (again : ℕ → Reading (Ty Bytes)) (next : ℕ) (t : Ty Bytes) : Type 0 where
  inner : Ty Bytes
  stop : ℕ
  reads : again next ≡ got inner stop
  same : EndsWithNameThatCanAcceptGenerics inner ≡ EndsWithNameThatCanAcceptGenerics t

module _ (ws pairs : List ℕ) (text : Bytes) (place : ℕ) where
  stepped : {next : ℕ} (u t : Ty Bytes) (m : ℕ) → type_at ws pairs text next ≡ got u m → EndsWithNameThatCanAcceptGenerics u ≡ EndsWithNameThatCanAcceptGenerics t → Step (type_at ws pairs text) next t
  stepped u t m e k = record { inner = u; stop = m; reads = e; same = k }

  name-step : (t : Ty Bytes) (n : ℕ) → type_at ws pairs text place ≡ got t n → (name_step (kind t) ≡ 0 → ⊥) → Step (type_at ws pairs text) (place + name_step (kind t)) t
  unfolding EndsWithNameThatCanAcceptGenerics name_step
  name-step (Primitive p) n e h = absurd (h (step-plain (primitive_kind p) (primitive-below p)))
  name-step (TIdentifier x) n e h = absurd (h refl)
  name-step (TypeFromPath x) n e h = absurd (h refl)
  name-step (TypeApp b ts) n e h = absurd (h refl)
  name-step (Borrowed t) n e h = stepped t (Borrowed t) n (ref-below ws pairs text place e) refl
  name-step (BorrowedMut t) n e h = stepped t (BorrowedMut t) n (mut-below ws pairs text place e) refl
  name-step (ImplType t) n e h = stepped t (ImplType t) n (impl-below ws pairs text place e) refl
  name-step (DynType t) n e h = stepped t (DynType t) n (dyn-below ws pairs text place e) refl
  name-step (TupleType ts) n e h = absurd (h refl)
  name-step (FnType ts t) n e h = absurd (h refl)
  name-step (IntersectionType l r) n e h = absurd (h refl)
  name-step (Array t s) n e h = absurd (h refl)
  name-step (TSynonym d b) n e h = stepped d (TSynonym d b) _ (display-below ws pairs text place e) refl
  name-step (TMetaData d c o) n e h = stepped d (TMetaData d c o) n (meta-below ws pairs text place e) refl

pub going-name : {ws pairs : List ℕ} {text : Bytes} {at place own : ℕ} (s : Going ends_at ws pairs text at place) → own ≡ name_step (get_or ws place 0) → (own ≡ 0 → ⊥) → Going ends_at ws pairs text at (place + own)
going-name {ws} {pairs} {text} {at} {place} {own} s d h =
    let k : own ≡ name_step (kind s.inner) = d ∙ ap name_step (sym (type-kind ws pairs text place s.left)) in
    let p = name-step ws pairs text place s.inner s.stop s.left (λ z. h (k ∙ z)) in
    going-to s (place + own) p.stop p.inner (ap (λ q. type_at ws pairs text (place + q)) k ∙ p.reads) p.same

-- ---- `NeedsAsRefForBorrow`

abbrev pub box_or_rc : Ty Bytes → Bool
box_or_rc t = IsBox t or IsRc t

needs-other : (t : Ty Bytes) → (kind t ≡ 15 → ⊥) → box_or_rc t ≡ NeedsAsRefForBorrow t
unfolding NeedsAsRefForBorrow
needs-other (Primitive x) h = refl
needs-other (TIdentifier x) h = refl
needs-other (TypeFromPath x) h = refl
needs-other (TypeApp b ts) h = refl
needs-other (Borrowed t) h = absurd (h refl)
needs-other (BorrowedMut t) h = refl
needs-other (ImplType t) h = refl
needs-other (DynType t) h = refl
needs-other (TupleType ts) h = refl
needs-other (FnType ts t) h = refl
needs-other (IntersectionType l r) h = refl
needs-other (Array t s) h = refl
needs-other (TSynonym d b) h = refl
needs-other (TMetaData d c o) h = refl

-- ---- the answers, by the words

-- one of two answers is yes
module _ (f g : Ty Bytes → Bool) {x : Reading (Ty Bytes)} {b : Bool} (j : Judges f x b) where
  pub judge-one : b ≡ true → Judges (λ t. f t or g t) x true
  judge-one k = record { says = λ t n e. let y : f t ≡ true = sym (j.says t n e) ∙ k in rw y refl }

  pub judge-other : {c : Bool} → b ≡ false → Judges g x c → Judges (λ t. f t or g t) x c
  judge-other k l = record { says = λ t n e. let y : f t ≡ false = sym (j.says t n e) ∙ k in rw y (l.says t n e) }

module _ (ws pairs : List ℕ) (text : Bytes) (at : ℕ) where
  abbrev again : ℕ → Reading (Ty Bytes)
  again = type_at ws pairs text

  pub judge-found : (f : Place Bytes → Option (Place Bytes)) (g : Ty Bytes → Bool) {u : Option ℕ} {b : Bool} → ((p : Place Bytes) → is_found (found (f p)) ≡ g p.tpe) → Finds f again at u → b ≡ is_found u → Judges g (again at) b
  judge-found f g h d k = record { says = λ t n e. k ∙ ap is_found (d.says t n e) ∙ h (place at t) }

  pub judge-auto : (r : ℕ) → ExpandsAt again at r → Judges IsAutoSize (again at) (ltb (get_or ws r 0) 11)
  judge-auto r x = record { says = λ t n e. ap (λ w. ltb w 11) (sym (type-kind ws pairs text r (x.expands t n e))) ∙ auto-kind t }

  -- an answer about what `Expand` gives
  pub judge-expanded : (g h : Ty Bytes → Bool) (r : ℕ) {b : Bool} → ((t : Ty Bytes) → g (Expand t) ≡ h t) → ExpandsAt again at r → Judges g (again r) b → Judges h (again at) b
  judge-expanded g h r k x j = record { says = λ t n e. j.says (Expand t) n (x.expands t n e) ∙ k t }

  -- whether what `Expand` gives is of one of two classes, by the first, or by the second if it is not of the first
  module _ (one other : Class) (h : Ty Bytes → Bool) (k : (t : Ty Bytes) → (is_of one (Expand t) or is_of other (Expand t)) ≡ h t) (r : ℕ) (x : ExpandsAt again at r) {b : Bool} (j : Judges (is_of one) (again r) b) where
    pub judge-class : b ≡ true → Judges h (again at) true
    judge-class e = judge-expanded _ h r k x (judge-one (is_of one) (is_of other) j e)

    pub judge-other-class : {c : Bool} → b ≡ false → Judges (is_of other) (again r) c → Judges h (again at) c
    judge-other-class e l = judge-expanded _ h r k x (judge-other (is_of one) (is_of other) j e l)

  pub judge-needs-ref : {b : Bool} → get_or ws at 0 ≡ 15 → Judges box_or_rc (again (at + 1)) b → Judges NeedsAsRefForBorrow (again at) b
  unfolding NeedsAsRefForBorrow
  judge-needs-ref h j = record {
    says = λ t n e. let m = ref-of ws pairs text at e h in j.says m.value n m.reads ∙ ap NeedsAsRefForBorrow (sym m.made);
  }

  pub judge-needs : {b : Bool} → (get_or ws at 0 ≡ 15 → ⊥) → Judges box_or_rc (again at) b → Judges NeedsAsRefForBorrow (again at) b
  judge-needs h j = record { says = λ t n e. j.says t n e ∙ needs-other t (λ k. h (sym (type-kind ws pairs text at e) ∙ k)) }

  pub owned-ref : get_or ws at 0 ≡ 15 → Judges (λ t. (owned_at at t).at) (again at) (at + 1)
  unfolding owned_at
  owned-ref h = record { says = λ t n e. let m = ref-of ws pairs text at e h in rw m.made refl }

  pub owned-mut : get_or ws at 0 ≡ 16 → Judges (λ t. (owned_at at t).at) (again at) (at + 1)
  unfolding owned_at
  owned-mut h = record { says = λ t n e. let m = mut_of ws pairs text at e h in rw m.made refl }

  pub owned-here : (get_or ws at 0 ≡ 15 → ⊥) → (get_or ws at 0 ≡ 16 → ⊥) → Judges (λ t. (owned_at at t).at) (again at) at
  owned-here h k = record {
    says = λ t n e.
        let d = type-kind ws pairs text at e in
        owned-other at t (λ i. h (sym d ∙ i)) (λ i. k (sym d ∙ i));
  }

  -- ---- arrays of `MaybeUninit`

  pub judge-unsized : {b : Bool} → get_or ws at 0 ≡ 22 → get_or ws (at + 1) 0 ≡ 0 → Judges (is_of Uninit) (again (at + 2)) b → Judges holds_uninit (again at) b
  unfolding size_of
  judge-unsized h k j = record {
    says = λ t n e.
        let m = (array_of ws pairs text at e h).1 in
        let i : t ≡ Array m.value None = m.made ∙ rw k refl in
        rw i (j.says m.value n m.reads ∙ sym (holds-unsized m.value));
  }

  pub judge-sized : get_or ws at 0 ≡ 22 → (get_or ws (at + 1) 0 ≡ 0 → ⊥) → Judges holds_uninit (again at) false
  unfolding size_of
  judge-sized h k = record {
    says = λ t n e.
        let m = (array_of ws pairs text at e h).1 in
        let i : t ≡ Array m.value (Some (name_bytes pairs text (get_or ws (at + 1) 0 - 1))) = m.made ∙ rw (ne_eqb (get_or ws (at + 1) 0) 0 k) refl in
        rw i (sym (holds-sized m.value _));
  }

  pub judge-no-array : {u : Option ℕ} → (get_or ws at 0 ≡ 22 → ⊥) → Finds (first ArrayClass) again at u → u ≡ None → Judges holds_uninit (again at) false
  judge-no-array h d k = record {
    says = λ t n e. sym (holds-none at t (λ i. h (sym (type-kind ws pairs text at e) ∙ i)) (nowhere ws pairs text at e d k));
  }

  pub judge-multi : {u : Option ℕ} {s : ℕ} {b : Bool} → (get_or ws at 0 ≡ 22 → ⊥) → Finds (first ArrayClass) again at u → u ≡ Some s → Judges (is_of Uninit) (again s) b → Judges holds_uninit (again at) b
  judge-multi h d k j = record {
    says = λ t n e.
        let l = located ws pairs text at e (first-keeps ws pairs text ArrayClass) d k in
        j.says l.tpe l.end l.reads ∙ sym (holds-first at t (λ i. h (sym (type-kind ws pairs text at e) ∙ i)) l.is);
  }

  pub judge-no-pointer : {u : Option ℕ} → Finds ObjectOrPointerUnderlying again at u → u ≡ None → Judges IsUninitArray (again at) false
  judge-no-pointer d k = record { says = λ t n e. sym (uninit-array-none at t (nowhere ws pairs text at e d k)) }

  pub judge-pointed : {u : Option ℕ} {s r : ℕ} {b : Bool} → Finds ObjectOrPointerUnderlying again at u → u ≡ Some s → ExpandsAt again s r → Judges holds_uninit (again r) b → Judges IsUninitArray (again at) b
  judge-pointed d k x j = record {
    says = λ t n e.
        let l = located ws pairs text at e (pointer-keeps ws pairs text) d k in
        j.says _ l.end (x.expands l.tpe l.end l.reads) ∙ sym (uninit-array-is at t l.is);
  }

-- ---- at the end of the way

abbrev pub rc_at : ℕ → Ty Bytes → Bool
rc_at p t = IsRcOrBorrowedRc t

abbrev pub can_at : ℕ → Ty Bytes → Bool
can_at p t = CanReadWithoutClone t

module _ {ws pairs : List ℕ} {text : Bytes} {at place : ℕ} where
  -- a test of the kind, by the word
  not-kind : {A : Type 0} {f : ℕ → Ty Bytes → A} {k : ℕ} (s : Going f ws pairs text at place) → (get_or ws place 0 ≡ k → ⊥) → kind s.inner ≡ k → ⊥
  not-kind s h i = h (sym (type-kind ws pairs text place s.left) ∙ i)

  pub removed-arrived : Going removed_to ws pairs text at place → (get_or ws place 0 ≡ 23 → ⊥) → (get_or ws place 0 ≡ 24 → ⊥) → Judges (removed_to at) (type_at ws pairs text at) place
  removed-arrived s h k =
      arrived s (removed-here place s.inner (not-kind s h) (not-kind s k))

  pub rc-arrived : {r : Bool} → Going rc_at ws pairs text at place → (get_or ws place 0 ≡ 15 → ⊥) → (get_or ws place 0 ≡ 23 → ⊥) → Judges (is_of Counted) (type_at ws pairs text place) r → Judges IsRcOrBorrowedRc (type_at ws pairs text at) r
  rc-arrived s h k j =
      arrived-by s (is_of Counted) j (rc-here s.inner (not-kind s h) (not-kind s k))

  pub can-number-arrived : Going can_at ws pairs text at place → get_or ws place 0 < 12 → Judges CanReadWithoutClone (type_at ws pairs text at) true
  can-number-arrived s h =
      let k = type-kind ws pairs text place s.left in
      arrived s (can-plain s.inner (omega (arith, k, h)))

  pub can-copy-arrived : Going can_at ws pairs text at place → get_or ws place 0 ≡ 24 → get_or ws (place + 1) 0 % 2 ≡ 1 → Judges CanReadWithoutClone (type_at ws pairs text at) true
  can-copy-arrived s h k =
      let m = (meta-of ws pairs text place s.left h).1 in
      arrived s (can-copy m.value _ (leb 2 (get_or ws (place + 1) 0)) (eq-eqb (get_or ws (place + 1) 0 % 2) 1 k) ∙ ap CanReadWithoutClone (sym m.made))

  pub can-going : Going can_at ws pairs text at place → get_or ws place 0 ≡ 24 → (get_or ws (place + 1) 0 % 2 ≡ 1 → ⊥) → Going can_at ws pairs text at (place + 2)
  can-going s h k =
      going-meta s h λ d.
      can-display d (eqb (get_or ws (place + 1) 0 % 2) 1) (leb 2 (get_or ws (place + 1) 0)) (ne_eqb (get_or ws (place + 1) 0 % 2) 1 k)

  pub can-arrived : {r : Bool} → Going can_at ws pairs text at place → 12 ≤ get_or ws place 0 → (get_or ws place 0 ≡ 23 → ⊥) → (get_or ws place 0 ≡ 24 → ⊥) → Judges (is_of PtrClass) (type_at ws pairs text place) r → Judges CanReadWithoutClone (type_at ws pairs text at) r
  can-arrived s g h k j =
      let w = type-kind ws pairs text place s.left in
      arrived-by s (is_of PtrClass) j (can-here s.inner (omega (arith, w, g)) (not-kind s h) (not-kind s k))

  pub name-arrived : {r : Bool} {own : ℕ} → Going ends_at ws pairs text at place → (get_or ws place 0 ≡ 21 → ⊥) → own ≡ name_step (get_or ws place 0) → own ≡ 0 → r ≡ name_kind (get_or ws place 0) → Judges EndsWithNameThatCanAcceptGenerics (type_at ws pairs text at) r
  name-arrived s h d k e =
      let w = type-kind ws pairs text place s.left in
      arrived s (e ∙ ap name_kind (sym w) ∙ name-here s.inner (not-kind s h) (ap name_step w ∙ sym d ∙ k))
