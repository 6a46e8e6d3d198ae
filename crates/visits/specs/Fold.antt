-- RAST's `FoldLeft` and `Type.Fold`, and of its visitor what goes through declarations, for any accumulator.
use Rattle.std.specs.Prelude.{List, [], ◌∷◌}
use Rattle.rast.specs.Declaration.{TypeParamDecl, Fields, NamedFields, NamelessFields, Declaration, StructDecl, EnumDecl, TypeDecl, UseDecl}
use Rattle.rast.specs.Tree.{Ty, Tys, Primitive, TIdentifier, TypeFromPath, TypeApp, Borrowed, BorrowedMut, ImplType, DynType, TupleType, FnType, IntersectionType, Array, TSynonym, TMetaData, nil, cons}

-- `FoldLeft`
unfoldable pub FoldLeft : {A T : Type 0} → (A → T → A) → A → List T → A
FoldLeft f init [] = init
FoldLeft f init (x ∷ xs) = FoldLeft f (f init x) xs

module _ {N A : Type 0} (f : A → Ty N → A) where
  unfoldable mutual
    -- `Type.Fold`
    pub Fold : A → Ty N → A
    Fold acc (Primitive p) = f acc (Primitive p)
    Fold acc (TIdentifier x) = f acc (TIdentifier x)
    Fold acc (TypeFromPath p) = f acc (TypeFromPath p)
    Fold acc (TypeApp b ts) = FoldAll (Fold (f acc (TypeApp b ts)) b) ts
    Fold acc (Borrowed t) = Fold (f acc (Borrowed t)) t
    Fold acc (BorrowedMut t) = Fold (f acc (BorrowedMut t)) t
    Fold acc (ImplType t) = Fold (f acc (ImplType t)) t
    Fold acc (DynType t) = Fold (f acc (DynType t)) t
    Fold acc (TupleType ts) = FoldAll (f acc (TupleType ts)) ts
    Fold acc (FnType ts t) = Fold (FoldAll (f acc (FnType ts t)) ts) t
    Fold acc (IntersectionType l r) = Fold (Fold (f acc (IntersectionType l r)) l) r
    Fold acc (Array t s) = Fold (f acc (Array t s)) t
    Fold acc (TSynonym d b) = Fold (f acc (TSynonym d b)) d
    Fold acc (TMetaData d c o) = Fold (f acc (TMetaData d c o)) d

    -- its `FoldLeft` over arguments
    pub FoldAll : A → Tys N → A
    FoldAll acc nil = acc
    FoldAll acc (cons t ts) = FoldAll (Fold acc t) ts

-- `RASTTopDownVisitor`, whose `VisitTypeSingle` is f and whose `VisitModDeclSingle` is `single`. The path of a declaration's module is left out: types do not depend on it.
module _ {N A : Type 0} (f : A → Ty N → A) where
  -- `VisitTypeParams`
  unfoldable pub VisitTypeParams : A → List (TypeParamDecl N) → A
  VisitTypeParams acc ps = FoldLeft (λ a p. FoldLeft (λ b t. Fold f b t) a p.constraints) acc ps

  -- `VisitFields`
  unfoldable pub VisitFields : A → Fields N → A
  VisitFields acc (NamedFields xs) = FoldLeft (λ a x. Fold f a x.formal.tpe) acc xs
  VisitFields acc (NamelessFields xs) = FoldLeft (λ a x. Fold f a x.tpe) acc xs

  -- `VisitModMapping`, with `VisitStructMapping` and `VisitUse`
  unfoldable pub VisitModMapping : (A → Declaration N → A) → A → Declaration N → A
  VisitModMapping single acc (StructDecl s) = VisitTypeParams (single acc (StructDecl s)) s.type_params
  VisitModMapping single acc (EnumDecl e) =
      FoldLeft (λ a c. VisitFields a c.fields) (VisitTypeParams (single acc (EnumDecl e)) e.type_params) e.variants
  VisitModMapping single acc (TypeDecl t) = Fold f (VisitTypeParams (single acc (TypeDecl t)) t.type_params) t.tpe
  VisitModMapping single acc (UseDecl u) = single acc (UseDecl u)
