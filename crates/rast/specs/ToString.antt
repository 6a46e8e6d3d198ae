-- The text of a path and of a type: `Path.ToString`, `Type.ToString`, `SeqToString`. The source's indent shows in neither and is left out.
use Rattle.std.specs.Prelude.{Option, Some, None, ◌++◌}
use Rattle.rast.specs.Bytes.{Bytes, ascii}
use Rattle.rast.specs.Tree.{Path, Global, Crate, Self, PMemberSelect, PrimitiveTy, U8, U16, U32, U64, U128, I8, I16, I32, I64, I128, USIZE, Bool·, Ty, Tys, Primitive, TIdentifier, TypeFromPath, TypeApp, Borrowed, BorrowedMut, ImplType, DynType, TupleType, FnType, IntersectionType, Array, TSynonym, TMetaData, nil, cons}

-- `Path.ToString`
unfoldable pub Path-to_string : Path Bytes → Bytes
Path-to_string Global = ascii ""
Path-to_string Crate = ascii "crate"
Path-to_string Self = ascii "Self"
Path-to_string (PMemberSelect base name) = Path-to_string base ++ ascii "::" ++ name

-- the twelve cases of `Type.ToString` without a part
unfoldable pub Primitive-to_string : PrimitiveTy → Bytes
Primitive-to_string U8 = ascii "u8"
Primitive-to_string U16 = ascii "u16"
Primitive-to_string U32 = ascii "u32"
Primitive-to_string U64 = ascii "u64"
Primitive-to_string U128 = ascii "u128"
Primitive-to_string I8 = ascii "i8"
Primitive-to_string I16 = ascii "i16"
Primitive-to_string I32 = ascii "i32"
Primitive-to_string I64 = ascii "i64"
Primitive-to_string I128 = ascii "i128"
Primitive-to_string USIZE = ascii "usize"
Primitive-to_string Bool· = ascii "bool"

-- `if size.Some? then "; " + size.value else ""`
unfoldable pub size_text : Option Bytes → Bytes
size_text None = ascii ""
size_text (Some size) = ascii "; " ++ size

-- `Type.ToString`
unfoldable mutual
  pub Type-to_string : Ty Bytes → Bytes
  Type-to_string (Primitive p) = Primitive-to_string p
  Type-to_string (TIdentifier name) = name
  Type-to_string (TypeFromPath path) = Path-to_string path
  Type-to_string (TypeApp base args) = Type-to_string base ++ arguments_text args
  Type-to_string (Borrowed t) = ascii "&" ++ Type-to_string t
  Type-to_string (BorrowedMut t) = ascii "&mut " ++ Type-to_string t
  Type-to_string (ImplType t) = ascii "impl " ++ Type-to_string t
  Type-to_string (DynType t) = ascii "dyn " ++ Type-to_string t
  Type-to_string (TupleType args) = ascii "(" ++ comma_text args ++ ascii ")"
  Type-to_string (FnType args t) = ascii "::std::ops::Fn(" ++ comma_text args ++ ascii ") -> " ++ Type-to_string t
  Type-to_string (IntersectionType l r) = Type-to_string l ++ ascii " + " ++ Type-to_string r
  Type-to_string (Array t size) = ascii "[" ++ Type-to_string t ++ size_text size ++ ascii "]"
  Type-to_string (TSynonym display base) = Type-to_string display
  Type-to_string (TMetaData display copySemantics overflow) = Type-to_string display

  -- `if args == [] then "" else "<" + SeqToString(args, .., ", ") + ">"`
  pub arguments_text : Tys Bytes → Bytes
  arguments_text nil = ascii ""
  arguments_text (cons t ts) = ascii "<" ++ (Type-to_string t ++ after_text ts) ++ ascii ">"

  -- `SeqToString(args, .., ", ")`
  pub comma_text : Tys Bytes → Bytes
  comma_text nil = ascii ""
  comma_text (cons t ts) = Type-to_string t ++ after_text ts

  -- what `SeqToString` puts behind the first: `if |s| > 1 then separator + SeqToString(s[1..], f, separator) else ""`
  pub after_text : Tys Bytes → Bytes
  after_text nil = ascii ""
  after_text (cons t ts) = ascii ", " ++ (Type-to_string t ++ after_text ts)
