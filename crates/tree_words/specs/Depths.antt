-- Document 01: how deep a type is, as its words are read. `rebuild_spec` has the depth of a rebuilt type, and proves that it is the same.
use Rattle.std.specs.Prelude.{ℕ, ◌+◌, max}
use Rattle.rast.specs.Tree.{Ty, Tys, Primitive, TIdentifier, TypeFromPath, TypeApp, Borrowed, BorrowedMut, ImplType, DynType, TupleType, FnType, IntersectionType, Array, TSynonym, TMetaData, nil, cons}

module _ {N : Type 0} where
  -- one that holds no other has depth 1
  unfoldable mutual
    pub depth : Ty N → ℕ
    depth (Primitive p) = 1
    depth (TIdentifier x) = 1
    depth (TypeFromPath p) = 1
    depth (TypeApp b ts) = 1 + max (depth b) (deepest ts)
    depth (Borrowed t) = 1 + depth t
    depth (BorrowedMut t) = 1 + depth t
    depth (ImplType t) = 1 + depth t
    depth (DynType t) = 1 + depth t
    depth (TupleType ts) = 1 + deepest ts
    depth (FnType ts t) = 1 + max (deepest ts) (depth t)
    depth (IntersectionType l r) = 1 + max (depth l) (depth r)
    depth (Array t s) = 1 + depth t
    depth (TSynonym d b) = 1 + max (depth d) (depth b)
    depth (TMetaData d c o) = 1 + depth d

    pub deepest : Tys N → ℕ
    deepest nil = 0
    deepest (cons t ts) = max (depth t) (deepest ts)
