-- RAST's datatypes `Path` and `Type`. They are over the type N of names: name numbers where a tree is rebuilt, bytes where it is printed.
use Rattle.std.specs.Prelude.{Option, ℕ, suc, Bool, List, [], ◌∷◌}

-- `Path`
pub data Path (N : Type 0) : Type 0 where
  Global Crate Self : Path N
  PMemberSelect : Path N → N → Path N

-- `Path.MSels`
unfoldable pub MSels : {N : Type 0} → Path N → List N → Path N
MSels p [] = p
MSels p (x ∷ xs) = MSels (PMemberSelect p x) xs

-- The twelve constructors of `Type` that hold nothing.
pub data PrimitiveTy : Type 0 where
  U8 U16 U32 U64 U128 I8 I16 I32 I64 I128 USIZE Bool· : PrimitiveTy

-- `Type`; `Tys` stands for `seq<Type>`
mutual
  pub data Ty (N : Type 0) : Type 0 where
    Primitive : PrimitiveTy → Ty N
    TIdentifier : N → Ty N
    TypeFromPath : Path N → Ty N
    TypeApp : Ty N → Tys N → Ty N
    Borrowed BorrowedMut ImplType DynType : Ty N → Ty N
    TupleType : Tys N → Ty N
    FnType : Tys N → Ty N → Ty N
    IntersectionType : Ty N → Ty N → Ty N
    Array : Ty N → Option N → Ty N
    TSynonym : Ty N → Ty N → Ty N
    TMetaData : Ty N → Bool → Bool → Ty N

  pub data Tys (N : Type 0) : Type 0 where
    nil : Tys N
    cons : Ty N → Tys N → Tys N

-- how many types
unfoldable pub count : {N : Type 0} → Tys N → ℕ
count nil = 0
count (cons t ts) = suc (count ts)
