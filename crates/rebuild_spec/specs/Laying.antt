-- Document 01 on rebuilt trees: how many words lie there while a tree is laid down, and how deep the finished tree is.
use Rattle.std.specs.Prelude.{ℕ, ◌+◌, max, length}
use Rattle.rast.specs.Tree.{Ty, Tys, Primitive, TIdentifier, TypeFromPath, TypeApp, Borrowed, BorrowedMut, ImplType, DynType, TupleType, FnType, IntersectionType, Array, TSynonym, TMetaData, nil, cons}
use Rattle.tree_words.specs.Encode.{path_tokens, words, words_all}
use Rattle.rebuild_spec.specs.Replace.{Replace, Replaces}

module _ {N : Type 0} where
  -- how deep a type is: one that holds no other has depth 1
  unfoldable mutual
    pub depth : Ty N → ℕ
    depth (Primitive p) = 1
    depth (TIdentifier x) = 1
    depth (TypeFromPath p) = 1
    depth (TypeApp b ts) = 1 + max (depth b) (deepest ts)
    depth (Borrowed t) = 1 + depth t
    depth (BorrowedMut t) = 1 + depth t
    depth (ImplType t) = 1 + depth t
    depth (DynType t) = 1 + depth t
    depth (TupleType ts) = 1 + deepest ts
    depth (FnType ts t) = 1 + max (deepest ts) (depth t)
    depth (IntersectionType l r) = 1 + max (depth l) (depth r)
    depth (Array t s) = 1 + depth t
    depth (TSynonym d b) = 1 + max (depth d) (depth b)
    depth (TMetaData d c o) = 1 + depth d

    pub deepest : Tys N → ℕ
    deepest nil = 0
    deepest (cons t ts) = max (depth t) (deepest ts)

  module _ (mapping : Ty N → Ty N) where
    -- the most words that lie there while t is laid down: `own` words, then as many as `below` of its rebuilt children, then the finished type or what it gives way to
    abbrev top_of : Ty N → ℕ → ℕ → ℕ
    top_of t own below = max (own + below) (words (Replace mapping t))

    -- one thing is laid down, which takes `first` at most and leaves `left`, and then another
    abbrev before : ℕ → ℕ → ℕ → ℕ
    before first left second = max first (left + second)

    -- the most words that lie there "at some moment", the node's own words first and "then each rebuilt child in turn"
    unfoldable mutual
      pub peak : Ty N → ℕ
      peak (Primitive p) = top_of (Primitive p) 1 0
      peak (TIdentifier x) = top_of (TIdentifier x) 2 0
      peak (TypeFromPath p) = top_of (TypeFromPath p) (1 + length (path_tokens p)) 0
      peak (TypeApp b ts) = top_of (TypeApp b ts) 2 (before (peak b) (words (Replace mapping b)) (peaks ts))
      peak (Borrowed t) = top_of (Borrowed t) 1 (peak t)
      peak (BorrowedMut t) = top_of (BorrowedMut t) 1 (peak t)
      peak (ImplType t) = top_of (ImplType t) 1 (peak t)
      peak (DynType t) = top_of (DynType t) 1 (peak t)
      peak (TupleType ts) = top_of (TupleType ts) 2 (peaks ts)
      peak (FnType ts t) = top_of (FnType ts t) 2 (before (peaks ts) (words_all (Replaces mapping ts)) (peak t))
      peak (IntersectionType l r) = top_of (IntersectionType l r) 1 (before (peak l) (words (Replace mapping l)) (peak r))
      peak (Array t s) = top_of (Array t s) 2 (peak t)
      peak (TSynonym d b) = top_of (TSynonym d b) 1 (before (peak d) (words (Replace mapping d)) (peak b))
      peak (TMetaData d c o) = top_of (TMetaData d c o) 2 (peak d)

      pub peaks : Tys N → ℕ
      peaks nil = 0
      peaks (cons t ts) = before (peak t) (words (Replace mapping t)) (peaks ts)
