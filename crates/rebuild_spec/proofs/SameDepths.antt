-- The depth of a rebuilt type is the depth by which its words are read again.
use mathlib.Core.Path.{◌≡◌, refl}
use Rattle.rast.specs.Tree.{Ty, Tys, Primitive, TIdentifier, TypeFromPath, TypeApp, Borrowed, BorrowedMut, ImplType, DynType, TupleType, FnType, IntersectionType, Array, TSynonym, TMetaData, nil, cons}
use Rattle.tree_words.specs.Depths.{depth as word_depth, deepest as word_deepest}
use Rattle.rebuild_spec.specs.Laying.{depth, deepest}

module _ {N : Type 0} where
  mutual
    unfolding depth deepest word_depth word_deepest

    pub same-depth : (t : Ty N) → word_depth t ≡ depth t
    same-depth (Primitive p) = refl
    same-depth (TIdentifier x) = refl
    same-depth (TypeFromPath p) = refl
    same-depth (TypeApp b ts) = rw (same-depth b, same-deepest ts) refl
    same-depth (Borrowed t) = rw (same-depth t) refl
    same-depth (BorrowedMut t) = rw (same-depth t) refl
    same-depth (ImplType t) = rw (same-depth t) refl
    same-depth (DynType t) = rw (same-depth t) refl
    same-depth (TupleType ts) = rw (same-deepest ts) refl
    same-depth (FnType ts t) = rw (same-deepest ts, same-depth t) refl
    same-depth (IntersectionType l r) = rw (same-depth l, same-depth r) refl
    same-depth (Array t s) = rw (same-depth t) refl
    same-depth (TSynonym d b) = rw (same-depth d, same-depth b) refl
    same-depth (TMetaData d c o) = rw (same-depth d) refl

    pub same-deepest : (ts : Tys N) → word_deepest ts ≡ deepest ts
    same-deepest nil = refl
    same-deepest (cons t ts) = rw (same-depth t, same-deepest ts) refl
