-- Matches on one constructor of `Type`, and parts that are taken out by one.
use Rattle.std.specs.Prelude.{Option, Some, None, ℕ, zero, suc, Bool, true, false}
use Rattle.rast.specs.Bytes.{Bytes}
use Rattle.rast.specs.Tree.{Path, Ty, Tys, Primitive, TIdentifier, TypeFromPath, TypeApp, Borrowed, BorrowedMut, ImplType, DynType, TupleType, FnType, IntersectionType, Array, TSynonym, TMetaData, nil, cons}

-- `case TypeFromPath(path) => f(path)`, `case _ => false`
unfoldable pub on_path : (Path Bytes → Bool) → Ty Bytes → Bool
on_path f (Primitive p) = false
on_path f (TIdentifier x) = false
on_path f (TypeFromPath p) = f p
on_path f (TypeApp b ts) = false
on_path f (Borrowed t) = false
on_path f (BorrowedMut t) = false
on_path f (ImplType t) = false
on_path f (DynType t) = false
on_path f (TupleType ts) = false
on_path f (FnType ts t) = false
on_path f (IntersectionType l r) = false
on_path f (Array t s) = false
on_path f (TSynonym d b) = false
on_path f (TMetaData d c o) = false

-- `case TypeApp(TypeFromPath(path), arguments) => f(path, arguments)`, `case _ => false`
unfoldable pub applied : (Path Bytes → Tys Bytes → Bool) → Ty Bytes → Bool
applied f (Primitive p) = false
applied f (TIdentifier x) = false
applied f (TypeFromPath p) = false
applied f (TypeApp b ts) = on_path (λ p. f p ts) b
applied f (Borrowed t) = false
applied f (BorrowedMut t) = false
applied f (ImplType t) = false
applied f (DynType t) = false
applied f (TupleType ts) = false
applied f (FnType ts t) = false
applied f (IntersectionType l r) = false
applied f (Array t s) = false
applied f (TSynonym d b) = false
applied f (TMetaData d c o) = false

-- `types[i]`, if there are so many
unfoldable pub type_in : {N : Type 0} → ℕ → Tys N → Option (Ty N)
type_in i nil = None
type_in zero (cons t ts) = Some t
type_in (suc i) (cons t ts) = type_in i ts

-- `arguments[i]` of a `TypeApp`
unfoldable pub argument : {N : Type 0} → ℕ → Ty N → Option (Ty N)
argument i (Primitive p) = None
argument i (TIdentifier x) = None
argument i (TypeFromPath p) = None
argument i (TypeApp b ts) = type_in i ts
argument i (Borrowed t) = None
argument i (BorrowedMut t) = None
argument i (ImplType t) = None
argument i (DynType t) = None
argument i (TupleType ts) = None
argument i (FnType ts t) = None
argument i (IntersectionType l r) = None
argument i (Array t s) = None
argument i (TSynonym d b) = None
argument i (TMetaData d c o) = None

-- `underlying` of an `Array` without a size
unfoldable pub unsized : {N : Type 0} → Ty N → Option (Ty N)
unsized (Primitive p) = None
unsized (TIdentifier x) = None
unsized (TypeFromPath p) = None
unsized (TypeApp b ts) = None
unsized (Borrowed t) = None
unsized (BorrowedMut t) = None
unsized (ImplType t) = None
unsized (DynType t) = None
unsized (TupleType ts) = None
unsized (FnType ts t) = None
unsized (IntersectionType l r) = None
unsized (Array t None) = Some t
unsized (Array t (Some x)) = None
unsized (TSynonym d b) = None
unsized (TMetaData d c o) = None

-- `DynType?`
unfoldable pub is_dyn : Ty Bytes → Bool
is_dyn (Primitive p) = false
is_dyn (TIdentifier x) = false
is_dyn (TypeFromPath p) = false
is_dyn (TypeApp b ts) = false
is_dyn (Borrowed t) = false
is_dyn (BorrowedMut t) = false
is_dyn (ImplType t) = false
is_dyn (DynType t) = true
is_dyn (TupleType ts) = false
is_dyn (FnType ts t) = false
is_dyn (IntersectionType l r) = false
is_dyn (Array t s) = false
is_dyn (TSynonym d b) = false
is_dyn (TMetaData d c o) = false

-- there is one, and f of it
unfoldable pub some_is : {A : Type 0} → (A → Bool) → Option A → Bool
some_is f None = false
some_is f (Some a) = f a
