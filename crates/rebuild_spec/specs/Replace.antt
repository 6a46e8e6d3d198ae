-- `Type.Replace` and `Type.ReplaceMap`.
use Rattle.std.specs.Prelude.{Bool, true, false, List, [], ◌∷◌}
use Rattle.rast.specs.Tree.{Ty, Tys, Primitive, TIdentifier, TypeFromPath, TypeApp, Borrowed, BorrowedMut, ImplType, DynType, TupleType, FnType, IntersectionType, Array, TSynonym, TMetaData, nil, cons}

-- `Type.Replace`; `Replaces` is its `Seq.Map` over arguments
unfoldable mutual
  pub Replace : {N : Type 0} → (Ty N → Ty N) → Ty N → Ty N
  Replace mapping (Primitive p) = mapping (Primitive p)
  Replace mapping (TIdentifier x) = mapping (TIdentifier x)
  Replace mapping (TypeFromPath p) = mapping (TypeFromPath p)
  Replace mapping (TypeApp b ts) = mapping (TypeApp (Replace mapping b) (Replaces mapping ts))
  Replace mapping (Borrowed t) = mapping (Borrowed (Replace mapping t))
  Replace mapping (BorrowedMut t) = mapping (BorrowedMut (Replace mapping t))
  Replace mapping (ImplType t) = mapping (ImplType (Replace mapping t))
  Replace mapping (DynType t) = mapping (DynType (Replace mapping t))
  Replace mapping (TupleType ts) = mapping (TupleType (Replaces mapping ts))
  Replace mapping (FnType ts t) = mapping (FnType (Replaces mapping ts) (Replace mapping t))
  Replace mapping (IntersectionType l r) = mapping (IntersectionType (Replace mapping l) (Replace mapping r))
  Replace mapping (Array t s) = mapping (Array (Replace mapping t) s)
  Replace mapping (TSynonym d b) = mapping (TSynonym (Replace mapping d) (Replace mapping b))
  Replace mapping (TMetaData d c o) = mapping (TMetaData (Replace mapping d) c o)

  pub Replaces : {N : Type 0} → (Ty N → Ty N) → Tys N → Tys N
  Replaces mapping nil = nil
  Replaces mapping (cons t ts) = cons (Replace mapping t) (Replaces mapping ts)

module _ {N : Type 0} where
  -- a map given by rules, from and to; eq tells whether two types are equal
  unfoldable pub ruled : (Ty N → Ty N → Bool) → List (Ty N × Ty N) → Ty N → Ty N
  ruled eq [] t = t
  ruled eq (r ∷ rs) t = elim (eq t r.0) [ true ↦ r.1 | false ↦ ruled eq rs t ]

  -- `Type.ReplaceMap`
  unfoldable pub ReplaceMap : (Ty N → Ty N → Bool) → List (Ty N × Ty N) → Ty N → Ty N
  ReplaceMap eq rules = Replace (ruled eq rules)
