-- One step from a type down to a part of it: from a place to the place of the part, if there is one.
use Rattle.std.specs.Prelude.{Option, Some, None, ℕ, zero, suc, ◌+◌, Bool, true, false}
use Rattle.rast.specs.Tree.{Ty, Tys, Primitive, TIdentifier, TypeFromPath, TypeApp, Borrowed, BorrowedMut, ImplType, DynType, TupleType, FnType, IntersectionType, Array, TSynonym, TMetaData, nil, cons}
use Rattle.tree_words.specs.Encode.{words}
use Rattle.tree_words.specs.Places.{Place, place}

-- `requires`: the answer, if the test holds
unfoldable pub when : {A : Type 0} → Bool → Option A → Option A
when true a = a
when false a = None

unfoldable pub and_then : {A B : Type 0} → Option A → (A → Option B) → Option B
and_then None f = None
and_then (Some a) f = f a

unfoldable pub or_else : {A : Type 0} → Option A → Option A → Option A
or_else None b = b
or_else (Some a) b = Some a

-- ---- one step down

-- `types[i]`, the first of them standing at p
unfoldable pub type_at_index : {N : Type 0} → ℕ → ℕ → Tys N → Option (Place N)
type_at_index i p nil = None
type_at_index zero p (cons t ts) = Some (place p t)
type_at_index (suc i) p (cons t ts) = type_at_index i (p + words t) ts

-- `arguments[i]`
unfoldable pub argument_at : {N : Type 0} → ℕ → ℕ → Ty N → Option (Place N)
argument_at i p (Primitive x) = None
argument_at i p (TIdentifier x) = None
argument_at i p (TypeFromPath x) = None
argument_at i p (TypeApp b ts) = type_at_index i (p + 2 + words b) ts
argument_at i p (Borrowed t) = None
argument_at i p (BorrowedMut t) = None
argument_at i p (ImplType t) = None
argument_at i p (DynType t) = None
argument_at i p (TupleType ts) = None
argument_at i p (FnType ts t) = None
argument_at i p (IntersectionType l r) = None
argument_at i p (Array t s) = None
argument_at i p (TSynonym d b) = None
argument_at i p (TMetaData d c o) = None

unfoldable pub argument_of : {N : Type 0} → ℕ → Place N → Option (Place N)
argument_of i p = argument_at i p.at p.tpe

-- `underlying` of a `DynType`
unfoldable pub dyn_at : {N : Type 0} → ℕ → Ty N → Option (Place N)
dyn_at p (Primitive x) = None
dyn_at p (TIdentifier x) = None
dyn_at p (TypeFromPath x) = None
dyn_at p (TypeApp b ts) = None
dyn_at p (Borrowed t) = None
dyn_at p (BorrowedMut t) = None
dyn_at p (ImplType t) = None
dyn_at p (DynType t) = Some (place (p + 1) t)
dyn_at p (TupleType ts) = None
dyn_at p (FnType ts t) = None
dyn_at p (IntersectionType l r) = None
dyn_at p (Array t s) = None
dyn_at p (TSynonym d b) = None
dyn_at p (TMetaData d c o) = None

unfoldable pub dyn_of : {N : Type 0} → Place N → Option (Place N)
dyn_of p = dyn_at p.at p.tpe

-- `underlying` of an `Array`, with a size or without
unfoldable pub element_at : {N : Type 0} → ℕ → Ty N → Option (Place N)
element_at p (Primitive x) = None
element_at p (TIdentifier x) = None
element_at p (TypeFromPath x) = None
element_at p (TypeApp b ts) = None
element_at p (Borrowed t) = None
element_at p (BorrowedMut t) = None
element_at p (ImplType t) = None
element_at p (DynType t) = None
element_at p (TupleType ts) = None
element_at p (FnType ts t) = None
element_at p (IntersectionType l r) = None
element_at p (Array t s) = Some (place (p + 2) t)
element_at p (TSynonym d b) = None
element_at p (TMetaData d c o) = None

unfoldable pub element_of : {N : Type 0} → Place N → Option (Place N)
element_of p = element_at p.at p.tpe
