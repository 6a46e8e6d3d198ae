-- A tree with other names: f at each of its names. Trees that are rebuilt hold name numbers, and trees that are compared or asked hold bytes.
use Rattle.std.specs.Prelude.{Option, Some, None}
use Rattle.rast.specs.Tree.{Path, Global, Crate, Self, PMemberSelect, Ty, Tys, Primitive, TIdentifier, TypeFromPath, TypeApp, Borrowed, BorrowedMut, ImplType, DynType, TupleType, FnType, IntersectionType, Array, TSynonym, TMetaData, nil, cons}

module _ {N M : Type 0} (f : N → M) where
  unfoldable pub renamed_path : Path N → Path M
  renamed_path Global = Global
  renamed_path Crate = Crate
  renamed_path Self = Self
  renamed_path (PMemberSelect p x) = PMemberSelect (renamed_path p) (f x)

  unfoldable pub renamed_size : Option N → Option M
  renamed_size None = None
  renamed_size (Some x) = Some (f x)

  -- each name by another; nothing else changes
  unfoldable mutual
    pub renamed : Ty N → Ty M
    renamed (Primitive p) = Primitive p
    renamed (TIdentifier x) = TIdentifier (f x)
    renamed (TypeFromPath p) = TypeFromPath (renamed_path p)
    renamed (TypeApp b ts) = TypeApp (renamed b) (renamed_all ts)
    renamed (Borrowed t) = Borrowed (renamed t)
    renamed (BorrowedMut t) = BorrowedMut (renamed t)
    renamed (ImplType t) = ImplType (renamed t)
    renamed (DynType t) = DynType (renamed t)
    renamed (TupleType ts) = TupleType (renamed_all ts)
    renamed (FnType ts t) = FnType (renamed_all ts) (renamed t)
    renamed (IntersectionType l r) = IntersectionType (renamed l) (renamed r)
    renamed (Array t s) = Array (renamed t) (renamed_size s)
    renamed (TSynonym d b) = TSynonym (renamed d) (renamed b)
    renamed (TMetaData d c o) = TMetaData (renamed d) c o

    pub renamed_all : Tys N → Tys M
    renamed_all nil = nil
    renamed_all (cons t ts) = cons (renamed t) (renamed_all ts)
