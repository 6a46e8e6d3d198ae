-- Boxes of `dyn`, and arrays of `MaybeUninit`: parts and shapes by the first arguments of applications.
use Rattle.std.specs.Prelude.{Option, Some, None}
use Prim.Native.Nat.{ℕ, zero, suc, ◌+◌}
use mathlib.Core.Path.{◌≡◌, refl, ap, sym, ◌∙◌}
use mathlib.Core.Bool.{Bool, true, false}
use Rattle.rast.specs.Bytes.{Bytes, ◌and◌}
use Rattle.rast.specs.Tree.{Ty, Tys, Primitive, TIdentifier, TypeFromPath, TypeApp, Borrowed, BorrowedMut, ImplType, DynType, TupleType, FnType, IntersectionType, Array, TSynonym, TMetaData, nil, cons}
use Rattle.rast.specs.DeclarationToString.{Expand}
use Rattle.rast.proofs.BytesLaws.{and-false}
use Rattle.encoding.proofs.Tables.{impossible}
use Rattle.encoding.proofs.TypeKinds.{kind}
use Rattle.tree_words.specs.Encode.{words}
use Rattle.tree_words.specs.Places.{Place, place}
use Rattle.known_paths.specs.declared.Class.TheVariants.{Boxed, Uninit, ArrayClass}
use Rattle.known_paths.specs.Asked.{found, is_found}
use Rattle.known_paths.specs.Classes.{in_class, arity, is_of, first}
use Rattle.known_paths.specs.Matches.{applied, type_in, argument, unsized, is_dyn, some_is}
use Rattle.known_paths.specs.Steps.{when, and_then, or_else, type_at_index, argument_at, argument_of, dyn_at, dyn_of, element_at, element_of}
use Rattle.shapes.specs.Parts.{expanded_at, BoxDynUnderlying, MaybeUninitTypeUnderlying, MultiArrayUnderlying, ObjectOrPointerUnderlying, uninit_element, ExtractMaybeUninitArrayElement, expanded}
use Rattle.shapes.specs.Shapes.{IsBoxDyn, IsMaybeUninit, IsMultiArray, IsObjectOrPointer, uninit_cases, IsUninitArray}
use Rattle.shapes.proofs.Pointers.{expanded-tree, multi-array-is}

-- ---- an argument's tree

abbrev tree : Option (Place Bytes) → Option (Ty Bytes)
tree None = None
tree (Some p) = Some p.tpe

index-tree : (i p : ℕ) (ts : Tys Bytes) → type_in i ts ≡ tree (type_at_index i p ts)
unfolding type_in type_at_index
index-tree i p nil = refl
index-tree zero p (cons t ts) = refl
index-tree (suc i) p (cons t ts) = index-tree i (p + words t) ts

argument-tree : (i p : ℕ) (t : Ty Bytes) → argument i t ≡ tree (argument_at i p t)
unfolding argument argument_at
argument-tree i p (Primitive x) = refl
argument-tree i p (TIdentifier x) = refl
argument-tree i p (TypeFromPath x) = refl
argument-tree i p (TypeApp b ts) = index-tree i (p + 2 + words b) ts
argument-tree i p (Borrowed t) = refl
argument-tree i p (BorrowedMut t) = refl
argument-tree i p (ImplType t) = refl
argument-tree i p (DynType t) = refl
argument-tree i p (TupleType ts) = refl
argument-tree i p (FnType ts t) = refl
argument-tree i p (IntersectionType l r) = refl
argument-tree i p (Array t s) = refl
argument-tree i p (TSynonym d b) = refl
argument-tree i p (TMetaData d c o) = refl

-- a test of a part, by where the part stands
module _ (b : Bool) (x : Option (Place Bytes)) (g : Ty Bytes → Bool) where
  asked-some : {q : Place Bytes} → when b x ≡ Some q → (b and some_is g (tree x)) ≡ g q.tpe
  unfolding when some_is ◌and◌
  asked-some {q} e = go b x e
    where
      go : (b : Bool) (x : Option (Place Bytes)) → when b x ≡ Some q → (b and some_is g (tree x)) ≡ g q.tpe
      go true None e = impossible (cc)
      go true (Some p) e = let i : p ≡ q = cc in ap (λ (r : Place Bytes). g r.tpe) i
      go false x e = impossible (cc)

  asked-none : when b x ≡ None → (b and some_is g (tree x)) ≡ false
  unfolding when some_is ◌and◌
  asked-none e = go b x e
    where
      go : (b : Bool) (x : Option (Place Bytes)) → when b x ≡ None → (b and some_is g (tree x)) ≡ false
      go true None e = refl
      go true (Some p) e = impossible (cc)
      go false x e = refl

-- ---- boxes of `dyn`

dyn-found : (p : ℕ) (t : Ty Bytes) → is_found (found (dyn_at p t)) ≡ is_dyn t
unfolding is_dyn dyn_at found
dyn-found p (Primitive x) = refl
dyn-found p (TIdentifier x) = refl
dyn-found p (TypeFromPath x) = refl
dyn-found p (TypeApp b ts) = refl
dyn-found p (Borrowed t) = refl
dyn-found p (BorrowedMut t) = refl
dyn-found p (ImplType t) = refl
dyn-found p (DynType t) = refl
dyn-found p (TupleType ts) = refl
dyn-found p (FnType ts t) = refl
dyn-found p (IntersectionType l r) = refl
dyn-found p (Array t s) = refl
dyn-found p (TSynonym d b) = refl
dyn-found p (TMetaData d c o) = refl

when-found : (x : Option (Place Bytes)) → when (is_found (found x)) x ≡ x
unfolding when found
when-found None = refl
when-found (Some p) = refl

dyn-when : (p : ℕ) (t : Ty Bytes) → when (is_dyn t) (dyn_at p t) ≡ dyn_at p t
dyn-when p t = ap (λ b. when b (dyn_at p t)) (sym (dyn-found p t)) ∙ when-found (dyn_at p t)

pub dyn-other : (p : ℕ) (t : Ty Bytes) → (kind t ≡ 18 → ⊥) → dyn_at p t ≡ None
unfolding dyn_at
dyn-other p (Primitive x) h = refl
dyn-other p (TIdentifier x) h = refl
dyn-other p (TypeFromPath x) h = refl
dyn-other p (TypeApp b ts) h = refl
dyn-other p (Borrowed t) h = refl
dyn-other p (BorrowedMut t) h = refl
dyn-other p (ImplType t) h = refl
dyn-other p (DynType t) h = absurd (h refl)
dyn-other p (TupleType ts) h = refl
dyn-other p (FnType ts t) h = refl
dyn-other p (IntersectionType l r) h = refl
dyn-other p (Array t s) h = refl
dyn-other p (TSynonym d b) h = refl
dyn-other p (TMetaData d c o) h = refl

box-dyn-when : (b : Bool) (x : Option (Place Bytes)) → when (b and some_is is_dyn (tree x)) (and_then x dyn_of) ≡ and_then (when b x) dyn_of
unfolding when and_then some_is ◌and◌ dyn_of
box-dyn-when true None = refl
box-dyn-when true (Some p) = dyn-when p.at p.tpe
box-dyn-when false x = refl

box-dyn-some : (b : Bool) (x : Option (Place Bytes)) → is_found (found (and_then (when b x) dyn_of)) ≡ (b and some_is is_dyn (tree x))
unfolding when and_then some_is ◌and◌ dyn_of found
box-dyn-some true None = refl
box-dyn-some true (Some p) = dyn-found p.at p.tpe
box-dyn-some false x = refl

pub box-dyn-first : (p : Place Bytes) → BoxDynUnderlying p ≡ and_then (first Boxed p) dyn_of
unfolding BoxDynUnderlying IsBoxDyn first is_of in_class arity argument_of
box-dyn-first p = rw (argument-tree 0 p.at p.tpe) (box-dyn-when (is_of Boxed p.tpe) (argument_of 0 p))

pub box-dyn-found : (p : Place Bytes) → is_found (found (BoxDynUnderlying p)) ≡ IsBoxDyn p.tpe
unfolding IsBoxDyn first is_of in_class arity argument_of
box-dyn-found p =
    rw (box-dyn-first p, argument-tree 0 p.at p.tpe) (box-dyn-some (is_of Boxed p.tpe) (argument_of 0 p))

-- ---- elements that are `MaybeUninit`

else-none : {A : Type 0} (x : Option A) → or_else x None ≡ x
unfolding or_else
else-none None = refl
else-none (Some a) = refl

pub uninit-of-array : (at : ℕ) (u : Ty Bytes) (s : Option Bytes) → uninit_element (place at (Array u s)) ≡ first Uninit (place (at + 2) u)
unfolding uninit_element element_of element_at and_then MultiArrayUnderlying IsMultiArray Expand applied when MaybeUninitTypeUnderlying IsMaybeUninit first is_of in_class arity
uninit-of-array at u s = else-none (first Uninit (place (at + 2) u))

no-element : (p : ℕ) (t : Ty Bytes) → (kind t ≡ 22 → ⊥) → element_at p t ≡ None
unfolding element_at
no-element p (Primitive x) h = refl
no-element p (TIdentifier x) h = refl
no-element p (TypeFromPath x) h = refl
no-element p (TypeApp b ts) h = refl
no-element p (Borrowed t) h = refl
no-element p (BorrowedMut t) h = refl
no-element p (ImplType t) h = refl
no-element p (DynType t) h = refl
no-element p (TupleType ts) h = refl
no-element p (FnType ts t) h = refl
no-element p (IntersectionType l r) h = refl
no-element p (Array t s) h = absurd (h refl)
no-element p (TSynonym d b) h = refl
no-element p (TMetaData d c o) h = refl

pub uninit-of-other : (at : ℕ) (t : Ty Bytes) → (kind t ≡ 22 → ⊥) → uninit_element (place at t) ≡ and_then (MultiArrayUnderlying (place at t)) (first Uninit)
unfolding uninit_element element_of and_then or_else MaybeUninitTypeUnderlying IsMaybeUninit first is_of in_class arity
uninit-of-other at t h = rw (no-element at t h) refl

when-twice : (b : Bool) (x : Option (Place Bytes)) (f : Place Bytes → Option (Place Bytes)) → when b (and_then (when b x) f) ≡ and_then (when b x) f
unfolding when and_then
when-twice true x f = refl
when-twice false x f = refl

pub uninit-of-pointer : (p : Place Bytes) → ExtractMaybeUninitArrayElement p ≡ and_then (ObjectOrPointerUnderlying p) uninit_element
unfolding ExtractMaybeUninitArrayElement ObjectOrPointerUnderlying
uninit-of-pointer p = when-twice (IsObjectOrPointer p.tpe) (argument_of 0 (expanded p)) uninit_element

-- ---- arrays that hold `MaybeUninit`

abbrev pub holds_uninit : Ty Bytes → Bool
holds_uninit s = uninit_cases (unsized s) s

pub holds-unsized : (u : Ty Bytes) → holds_uninit (Array u None) ≡ is_of Uninit u
unfolding uninit_cases unsized IsMaybeUninit is_of in_class arity
holds-unsized u = refl

pub holds-sized : (u : Ty Bytes) (x : Bytes) → holds_uninit (Array u (Some x)) ≡ false
unfolding uninit_cases unsized IsMultiArray Expand applied ◌and◌
holds-sized u x = refl

-- an application, or none
holds-multi : (t : Ty Bytes) → (kind t ≡ 22 → ⊥) → holds_uninit t ≡ (is_of ArrayClass t and some_is (is_of Uninit) (argument 0 t))
unfolding uninit_cases unsized Expand argument some_is is_of in_class arity IsMaybeUninit applied ◌and◌
holds-multi (Primitive x) h = rw (multi-array-is (Primitive x)) refl
holds-multi (TIdentifier x) h = rw (multi-array-is (TIdentifier x)) refl
holds-multi (TypeFromPath x) h = rw (multi-array-is (TypeFromPath x)) refl
holds-multi (TypeApp b ts) h = rw (multi-array-is (TypeApp b ts)) refl
holds-multi (Borrowed t) h = rw (multi-array-is (Borrowed t)) refl
holds-multi (BorrowedMut t) h = rw (multi-array-is (BorrowedMut t)) refl
holds-multi (ImplType t) h = rw (multi-array-is (ImplType t)) refl
holds-multi (DynType t) h = rw (multi-array-is (DynType t)) refl
holds-multi (TupleType ts) h = rw (multi-array-is (TupleType ts)) refl
holds-multi (FnType ts t) h = rw (multi-array-is (FnType ts t)) refl
holds-multi (IntersectionType l r) h = rw (multi-array-is (IntersectionType l r)) refl
holds-multi (Array t s) h = absurd (h refl)
holds-multi (TSynonym d b) h = and-false (IsMultiArray (TSynonym d b))
holds-multi (TMetaData d c o) h = and-false (IsMultiArray (TMetaData d c o))

module _ (at : ℕ) (t : Ty Bytes) (h : kind t ≡ 22 → ⊥) where
  pub holds-first : {q : Place Bytes} → first ArrayClass (place at t) ≡ Some q → holds_uninit t ≡ is_of Uninit q.tpe
  unfolding first argument_of
  holds-first {q} e = holds-multi t h ∙ rw (argument-tree 0 at t) (asked-some (is_of ArrayClass t) (argument_at 0 at t) (is_of Uninit) e)

  pub holds-none : first ArrayClass (place at t) ≡ None → holds_uninit t ≡ false
  unfolding first argument_of
  holds-none e = holds-multi t h ∙ rw (argument-tree 0 at t) (asked-none (is_of ArrayClass t) (argument_at 0 at t) (is_of Uninit) e)

module _ (at : ℕ) (t : Ty Bytes) where
  pointer-tree : argument 0 (Expand t) ≡ tree (argument_of 0 (expanded (place at t)))
  unfolding argument_of expanded
  pointer-tree = ap (argument 0) (sym (expanded-tree at t)) ∙ argument-tree 0 (expanded_at at t).at (expanded_at at t).tpe

  pub uninit-array-is : {q : Place Bytes} → ObjectOrPointerUnderlying (place at t) ≡ Some q → IsUninitArray t ≡ holds_uninit (Expand q.tpe)
  unfolding IsUninitArray ObjectOrPointerUnderlying
  uninit-array-is {q} e =
      rw pointer-tree (asked-some (IsObjectOrPointer t) (argument_of 0 (expanded (place at t))) (λ u. holds_uninit (Expand u)) e)

  pub uninit-array-none : ObjectOrPointerUnderlying (place at t) ≡ None → IsUninitArray t ≡ false
  unfolding IsUninitArray ObjectOrPointerUnderlying
  uninit-array-none e =
      rw pointer-tree (asked-none (IsObjectOrPointer t) (argument_of 0 (expanded (place at t))) (λ u. holds_uninit (Expand u)) e)
