-- The text of a declaration at an indent: the `ToString` bodies of `Struct` to `TypeParamDecl`, of `Formal`, `Visibility` and `Use`.
-- An indent that the source hands on and that shows nowhere, as in a type, is left out.
use Rattle.std.specs.Prelude.{ℕ, Bool, true, false, List, [], ◌∷◌, ◌++◌}
use Rattle.rast.specs.Bytes.{Bytes, ascii, ◌and◌, same}
use Rattle.rast.specs.Tree.{Path, Global, Crate, Self, PMemberSelect, Ty, Primitive, TIdentifier, TypeFromPath, TypeApp, Borrowed, BorrowedMut, ImplType, DynType, TupleType, FnType, IntersectionType, Array, TSynonym, TMetaData}
use Rattle.rast.specs.ToString.{Path-to_string, Type-to_string}
use Rattle.rast.specs.Indent.{IND, indent, SeqToString}
use Rattle.rast.specs.Doc.{ToDocstringPrefix}
use Rattle.rast.specs.Declaration.{Visibility, PUB, PRIV, Attribute, TypeParamDecl, Formal, Field, NamelessField, Fields, NamedFields, NamelessFields, EnumCase, Struct, Enum, TypeSynonym, Use, Declaration, StructDecl, EnumDecl, TypeDecl, UseDecl}

-- `Visibility.ToString`
unfoldable pub Visibility-to_string : Visibility → Bytes
Visibility-to_string PUB = ascii "pub "
Visibility-to_string PRIV = ascii ""

-- `if |derived| != 0 then "(" + SeqToString(derived, .., ", ") + ")" else ""`
unfoldable pub derived_text : List Bytes → Bytes
derived_text [] = ascii ""
derived_text (x ∷ xs) = ascii "(" ++ SeqToString (λ y. y) (ascii ", ") (x ∷ xs) ++ ascii ")"

-- `Attribute.ToString`
unfoldable pub Attribute-to_string : Attribute Bytes → Bytes
Attribute-to_string a = ascii "#[" ++ a.name ++ derived_text a.derived ++ ascii "]"

-- `Attribute.ToStringMultiple`
unfoldable pub Attribute-to_string_multiple : Bytes → List (Attribute Bytes) → Bytes
Attribute-to_string_multiple ind attributes = SeqToString (λ a. Attribute-to_string a ++ ascii "\n" ++ ind) (ascii "") attributes

-- `if |constraints| == 0 then "" else ": " + SeqToString(constraints, .., " + ")`
unfoldable pub constraints_text : List (Ty Bytes) → Bytes
constraints_text [] = ascii ""
constraints_text (t ∷ ts) = ascii ": " ++ SeqToString Type-to_string (ascii " + ") (t ∷ ts)

-- `TypeParamDecl.ToString`
unfoldable pub TypeParamDecl-to_string : TypeParamDecl Bytes → Bytes
TypeParamDecl-to_string p = p.name ++ constraints_text p.constraints

-- `TypeParamDecl.ToStringMultiple`
unfoldable pub TypeParamDecl-to_string_multiple : List (TypeParamDecl Bytes) → Bytes
TypeParamDecl-to_string_multiple [] = ascii ""
TypeParamDecl-to_string_multiple (p ∷ ps) = ascii "<" ++ SeqToString TypeParamDecl-to_string (ascii ", ") (p ∷ ps) ++ ascii ">"

-- ---- a named field

-- `Type.Expand`
unfoldable pub Expand : {N : Type 0} → Ty N → Ty N
Expand (Primitive p) = Primitive p
Expand (TIdentifier x) = TIdentifier x
Expand (TypeFromPath p) = TypeFromPath p
Expand (TypeApp b ts) = TypeApp b ts
Expand (Borrowed t) = Borrowed t
Expand (BorrowedMut t) = BorrowedMut t
Expand (ImplType t) = ImplType t
Expand (DynType t) = DynType t
Expand (TupleType ts) = TupleType ts
Expand (FnType ts t) = FnType ts t
Expand (IntersectionType l r) = IntersectionType l r
Expand (Array t s) = Array t s
Expand (TSynonym display base) = Expand base
Expand (TMetaData display copySemantics overflow) = Expand display

-- the path `Self`
unfoldable pub is_self_path : {N : Type 0} → Path N → Bool
is_self_path Global = false
is_self_path Crate = false
is_self_path Self = true
is_self_path (PMemberSelect p x) = false

-- `tpe == SelfOwned`
unfoldable pub is_self_owned : {N : Type 0} → Ty N → Bool
is_self_owned (Primitive p) = false
is_self_owned (TIdentifier x) = false
is_self_owned (TypeFromPath p) = is_self_path p
is_self_owned (TypeApp b ts) = false
is_self_owned (Borrowed t) = false
is_self_owned (BorrowedMut t) = false
is_self_owned (ImplType t) = false
is_self_owned (DynType t) = false
is_self_owned (TupleType ts) = false
is_self_owned (FnType ts t) = false
is_self_owned (IntersectionType l r) = false
is_self_owned (Array t s) = false
is_self_owned (TSynonym d b) = false
is_self_owned (TMetaData d c o) = false

-- `tpe == SelfBorrowed`
unfoldable pub is_self_borrowed : {N : Type 0} → Ty N → Bool
is_self_borrowed (Primitive p) = false
is_self_borrowed (TIdentifier x) = false
is_self_borrowed (TypeFromPath p) = false
is_self_borrowed (TypeApp b ts) = false
is_self_borrowed (Borrowed t) = is_self_owned t
is_self_borrowed (BorrowedMut t) = false
is_self_borrowed (ImplType t) = false
is_self_borrowed (DynType t) = false
is_self_borrowed (TupleType ts) = false
is_self_borrowed (FnType ts t) = false
is_self_borrowed (IntersectionType l r) = false
is_self_borrowed (Array t s) = false
is_self_borrowed (TSynonym d b) = false
is_self_borrowed (TMetaData d c o) = false

-- `tpe == SelfBorrowedMut`
unfoldable pub is_self_borrowed_mut : {N : Type 0} → Ty N → Bool
is_self_borrowed_mut (Primitive p) = false
is_self_borrowed_mut (TIdentifier x) = false
is_self_borrowed_mut (TypeFromPath p) = false
is_self_borrowed_mut (TypeApp b ts) = false
is_self_borrowed_mut (Borrowed t) = false
is_self_borrowed_mut (BorrowedMut t) = is_self_owned t
is_self_borrowed_mut (ImplType t) = false
is_self_borrowed_mut (DynType t) = false
is_self_borrowed_mut (TupleType ts) = false
is_self_borrowed_mut (FnType ts t) = false
is_self_borrowed_mut (IntersectionType l r) = false
is_self_borrowed_mut (Array t s) = false
is_self_borrowed_mut (TSynonym d b) = false
is_self_borrowed_mut (TMetaData d c o) = false

-- `tpe.TIdentifier? && tpe.name == "_"`
unfoldable pub is_underscore : Ty Bytes → Bool
is_underscore (Primitive p) = false
is_underscore (TIdentifier x) = same x (ascii "_")
is_underscore (TypeFromPath p) = false
is_underscore (TypeApp b ts) = false
is_underscore (Borrowed t) = false
is_underscore (BorrowedMut t) = false
is_underscore (ImplType t) = false
is_underscore (DynType t) = false
is_underscore (TupleType ts) = false
is_underscore (FnType ts t) = false
is_underscore (IntersectionType l r) = false
is_underscore (Array t s) = false
is_underscore (TSynonym d b) = false
is_underscore (TMetaData d c o) = false

-- `Formal.ToString`: `Expand` follows the base, so bases show here
unfoldable pub Formal-to_string : Formal Bytes → Bytes
Formal-to_string f =
    let isSelf = same f.name (ascii "self") in
    elim (isSelf and is_self_owned (Expand f.tpe)) [
      | true ↦ f.name
      | false ↦ elim (isSelf and is_self_borrowed f.tpe) [
        | true ↦ ascii "&" ++ f.name
        | false ↦ elim (isSelf and is_self_borrowed_mut f.tpe) [
          | true ↦ ascii "&mut " ++ f.name
          | false ↦ elim (is_underscore f.tpe) [
            | true ↦ f.name
            | false ↦ f.name ++ ascii ": " ++ Type-to_string f.tpe
          ]
        ]
      ]
    ]

-- `Field.ToString`
unfoldable pub Field-to_string : Field Bytes → Bytes
Field-to_string x = Visibility-to_string x.visibility ++ Formal-to_string x.formal

-- `NamelessField.ToString`
unfoldable pub NamelessField-to_string : NamelessField Bytes → Bytes
NamelessField-to_string x = Visibility-to_string x.visibility ++ Type-to_string x.tpe

-- ---- fields

-- `separator` in `Fields.ToString`
unfoldable pub separator_text : Bytes → Bool → Bytes
separator_text ind true = ascii ",\n" ++ ind ++ IND
separator_text ind false = ascii ", "

-- `begin_space` and `end_space`, where there are fields
unfoldable pub begin_space : Bytes → Bool → Bytes
begin_space ind true = ascii "\n" ++ ind ++ IND
begin_space ind false = ascii " "

unfoldable pub end_space : Bytes → Bool → Bytes
end_space ind true = ascii "\n" ++ ind
end_space ind false = ascii " "

-- `Fields.ToString`
unfoldable pub Fields-to_string : Bytes → Bool → Fields Bytes → Bytes
Fields-to_string ind newLine (NamedFields []) = ascii " {" ++ ascii "}"
Fields-to_string ind newLine (NamedFields (x ∷ xs)) =
    ascii " {" ++ begin_space ind newLine ++ SeqToString Field-to_string (separator_text ind newLine) (x ∷ xs) ++ end_space ind newLine ++ ascii "}"
Fields-to_string ind newLine (NamelessFields xs) = ascii "(" ++ SeqToString NamelessField-to_string (separator_text ind newLine) xs ++ ascii ")"

-- `EnumCase.ToString`
unfoldable pub EnumCase-to_string : Bytes → Bool → EnumCase Bytes → Bytes
EnumCase-to_string ind newLine c = ToDocstringPrefix c.doc_string ind ++ c.name ++ Fields-to_string ind newLine c.fields

-- the end of `Struct.ToString`: `fields.ToString(ind, fields.NamedFields?) + (if fields.NamelessFields? then ";" else "")`
unfoldable pub struct_fields_text : Bytes → Fields Bytes → Bytes
struct_fields_text ind (NamedFields xs) = Fields-to_string ind true (NamedFields xs) ++ ascii ""
struct_fields_text ind (NamelessFields xs) = Fields-to_string ind false (NamelessFields xs) ++ ascii ";"

-- ---- declarations

-- `Struct.ToString`
unfoldable pub Struct-to_string : Bytes → Struct Bytes → Bytes
Struct-to_string ind s =
    ToDocstringPrefix s.doc_string ind ++ Attribute-to_string_multiple ind s.attributes
    ++ ascii "pub struct " ++ s.name ++ TypeParamDecl-to_string_multiple s.type_params
    ++ struct_fields_text ind s.fields

-- `Enum.ToString`
unfoldable pub Enum-to_string : Bytes → Enum Bytes → Bytes
Enum-to_string ind e =
    ToDocstringPrefix e.doc_string ind ++ Attribute-to_string_multiple ind e.attributes
    ++ ascii "pub enum " ++ e.name ++ TypeParamDecl-to_string_multiple e.type_params ++ ascii " {"
    ++ SeqToString (λ c. ascii "\n" ++ ind ++ IND ++ EnumCase-to_string (ind ++ IND) true c) (ascii ",") e.variants
    ++ ascii "\n" ++ ind ++ ascii "}"

-- `TypeSynonym.ToString`
unfoldable pub TypeSynonym-to_string : Bytes → TypeSynonym Bytes → Bytes
TypeSynonym-to_string ind t =
    ToDocstringPrefix t.doc_string ind ++ Attribute-to_string_multiple ind t.attributes
    ++ ascii "pub type " ++ t.name ++ TypeParamDecl-to_string_multiple t.type_params ++ ascii " = " ++ Type-to_string t.tpe ++ ascii ";"

-- `Use.ToString`
unfoldable pub Use-to_string : Use Bytes → Bytes
Use-to_string u = Visibility-to_string u.visibility ++ ascii "use " ++ Path-to_string u.path ++ ascii ";"

-- `ModDecl.ToString`, at a level
unfoldable pub Declaration-to_string : ℕ → Declaration Bytes → Bytes
Declaration-to_string level (StructDecl s) = Struct-to_string (indent level) s
Declaration-to_string level (EnumDecl e) = Enum-to_string (indent level) e
Declaration-to_string level (TypeDecl t) = TypeSynonym-to_string (indent level) t
Declaration-to_string level (UseDecl u) = Use-to_string u
