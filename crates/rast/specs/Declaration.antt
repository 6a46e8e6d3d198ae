-- RAST's datatypes of declarations, over the type N of names, as `Path` and `Ty` are. A doc comment is a name, empty for none.
use Rattle.std.specs.Prelude.{List}
use Rattle.rast.specs.Tree.{Path, Ty}

-- `Visibility`
pub data Visibility : Type 0 where
  PUB PRIV : Visibility

-- `Attribute`: its one case, `ApplyAttribute`
pub record Attribute (N : Type 0) : Type 0 where
  pub name : N
  pub derived : List N

-- `TypeParamDecl`
pub record TypeParamDecl (N : Type 0) : Type 0 where
  pub name : N
  pub constraints : List (Ty N)

-- `Formal`
pub record Formal (N : Type 0) : Type 0 where
  pub name : N
  pub tpe : Ty N

-- `Field`
pub record Field (N : Type 0) : Type 0 where
  pub visibility : Visibility
  pub formal : Formal N

-- `NamelessField`
pub record NamelessField (N : Type 0) : Type 0 where
  pub visibility : Visibility
  pub tpe : Ty N

-- `Fields`
pub data Fields (N : Type 0) : Type 0 where
  NamedFields : List (Field N) → Fields N
  NamelessFields : List (NamelessField N) → Fields N

-- `EnumCase`
pub record EnumCase (N : Type 0) : Type 0 where
  pub doc_string : N
  pub name : N
  pub fields : Fields N

-- `Struct`
pub record Struct (N : Type 0) : Type 0 where
  pub doc_string : N
  pub attributes : List (Attribute N)
  pub name : N
  pub type_params : List (TypeParamDecl N)
  pub fields : Fields N

-- `Enum`
pub record Enum (N : Type 0) : Type 0 where
  pub doc_string : N
  pub attributes : List (Attribute N)
  pub name : N
  pub type_params : List (TypeParamDecl N)
  pub variants : List (EnumCase N)

-- `TypeSynonym`
pub record TypeSynonym (N : Type 0) : Type 0 where
  pub doc_string : N
  pub attributes : List (Attribute N)
  pub name : N
  pub type_params : List (TypeParamDecl N)
  pub tpe : Ty N

-- `Use`
pub record Use (N : Type 0) : Type 0 where
  pub visibility : Visibility
  pub path : Path N

-- the four kinds of declaration, by the names that they have in `ModDecl`
pub data Declaration (N : Type 0) : Type 0 where
  StructDecl : Struct N → Declaration N
  EnumDecl : Enum N → Declaration N
  TypeDecl : TypeSynonym N → Declaration N
  UseDecl : Use N → Declaration N
