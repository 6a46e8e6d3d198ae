-- Worked examples of declarations: document 01's whole example, and cases that are easily got wrong. One list, and one claim for all of it, by computation.
use Rattle.std.proofs.Common.{◌≡◌, ℕ, false, List, [], ◌∷◌, map, refl}
use Prim.Native.String.{String}
use Rattle.rast.specs.Bytes.{Bytes, ascii, same, begins, ◌and◌}
use Rattle.rast.specs.Tree.{Self, Global, MSels, U8, U16, I32, Ty, Primitive, TIdentifier, TypeFromPath, Borrowed, BorrowedMut, TSynonym, TMetaData}
use Rattle.rast.specs.ToString.{Path-to_string, Primitive-to_string, Type-to_string}
use Rattle.rast.specs.Indent.{IND, indent, SeqToString}
use Rattle.rast.specs.Doc.{is_empty_text, GatherSimpleQuotes, DocStringPrefix, at_fence, at_line_start, at_space, convert_body, convert_up_to, ConvertDocstring, ToDocstringPrefix}
use Rattle.rast.specs.Declaration.{Visibility, PUB, PRIV, Field, Declaration, NamedFields, NamelessFields, StructDecl, EnumDecl, TypeDecl, UseDecl}
use Rattle.rast.specs.DeclarationToString.{Visibility-to_string, derived_text, Attribute-to_string, Attribute-to_string_multiple, constraints_text, TypeParamDecl-to_string, TypeParamDecl-to_string_multiple, Expand, is_self_path, is_self_owned, is_self_borrowed, is_self_borrowed_mut, is_underscore, Formal-to_string, Field-to_string, NamelessField-to_string, separator_text, begin_space, end_space, Fields-to_string, EnumCase-to_string, struct_fields_text, Struct-to_string, Enum-to_string, TypeSynonym-to_string, Use-to_string, Declaration-to_string}

abbrev field : Visibility → String → Ty Bytes → Field Bytes
field v x t = record { visibility = v; formal = record { name = ascii x; tpe = t } }

abbrev fields : List (Field Bytes) → Declaration Bytes
fields xs = StructDecl (record { doc_string = []; attributes = []; name = ascii "A"; type_params = []; fields = NamedFields xs })

abbrev self : Ty Bytes
self = TypeFromPath Self

abbrev u8 : Ty Bytes
u8 = Primitive U8

unfoldable pub examples : List (ℕ × Declaration Bytes × String)
examples =
    -- the whole example
    (
      0,
      StructDecl (record { doc_string = ascii "Offset in mm."; attributes = []; name = ascii "Gauge"; type_params = []; fields = NamedFields (field PUB "mm" (Primitive I32) ∷ field PRIV "id" (Borrowed u8) ∷ []) }),
      "/// Offset in mm.\npub struct Gauge {\n    pub mm: i32,\n    id: &u8\n}",
    )
    -- fields without names: on one line in a struct, on lines of their own in an enum
    ∷ (0, StructDecl (record { doc_string = []; attributes = []; name = ascii "A"; type_params = []; fields = NamelessFields (record { visibility = PUB; tpe = u8 } ∷ record { visibility = PRIV; tpe = Primitive U16 } ∷ []) }), "pub struct A(pub u8, u16);")
    ∷ (
      0,
      EnumDecl (record { doc_string = []; attributes = []; name = ascii "A"; type_params = []; variants = record { doc_string = []; name = ascii "B"; fields = NamelessFields (record { visibility = PUB; tpe = u8 } ∷ record { visibility = PRIV; tpe = Primitive U16 } ∷ []) } ∷ [] }),
      "pub enum A {\n    B(pub u8,\n        u16)\n}",
    )
    -- nothing inside
    ∷ (0, EnumDecl (record { doc_string = []; attributes = []; name = ascii "A"; type_params = []; variants = [] }), "pub enum A {\n}")
    ∷ (0, fields [], "pub struct A {}")
    -- attributes, parameters, a level
    ∷ (
      1,
      TypeDecl (record { doc_string = []; attributes = record { name = ascii "derive"; derived = ascii "Clone" ∷ ascii "Copy" ∷ [] } ∷ []; name = ascii "A"; type_params = record { name = ascii "T"; constraints = u8 ∷ Primitive U16 ∷ [] } ∷ record { name = ascii "U"; constraints = [] } ∷ []; tpe = u8 }),
      "#[derive(Clone, Copy)]\n    pub type A<T: u8 + u16, U> = u8;",
    )
    ∷ (0, UseDecl (record { visibility = PRIV; path = Global }), "use ;")
    ∷ (0, UseDecl (record { visibility = PUB; path = MSels Global (ascii "std" ∷ ascii "rc" ∷ []) }), "pub use ::std::rc;")
    -- a field named `self`: the base decides, and a wrapper hides a reference
    ∷ (0, fields (field PRIV "self" self ∷ []), "pub struct A {\n    self\n}")
    ∷ (0, fields (field PRIV "self" (TSynonym u8 self) ∷ []), "pub struct A {\n    self\n}")
    ∷ (0, fields (field PRIV "self" (TSynonym self u8) ∷ []), "pub struct A {\n    self: Self\n}")
    ∷ (0, fields (field PUB "self" (Borrowed self) ∷ []), "pub struct A {\n    pub &self\n}")
    ∷ (0, fields (field PRIV "self" (BorrowedMut self) ∷ []), "pub struct A {\n    &mut self\n}")
    ∷ (0, fields (field PRIV "self" (Borrowed (TMetaData self false false)) ∷ []), "pub struct A {\n    self: &Self\n}")
    -- the type `_`
    ∷ (0, fields (field PRIV "x" (TIdentifier (ascii "_")) ∷ []), "pub struct A {\n    x\n}")
    ∷ (0, fields (field PRIV "x" (TMetaData (TIdentifier (ascii "_")) false false) ∷ []), "pub struct A {\n    x: _\n}")
    ∷ []

pub declaration-texts : map (λ e. Declaration-to_string e.0 e.1) examples ≡ map (λ e. ascii e.2) examples
unfolding examples ascii same begins ◌and◌ MSels Path-to_string Primitive-to_string Type-to_string IND indent SeqToString is_empty_text GatherSimpleQuotes DocStringPrefix at_fence at_line_start at_space convert_body convert_up_to ConvertDocstring ToDocstringPrefix Visibility-to_string derived_text Attribute-to_string Attribute-to_string_multiple constraints_text TypeParamDecl-to_string TypeParamDecl-to_string_multiple Expand is_self_path is_self_owned is_self_borrowed is_self_borrowed_mut is_underscore Formal-to_string Field-to_string NamelessField-to_string separator_text begin_space end_space Fields-to_string EnumCase-to_string struct_fields_text Struct-to_string Enum-to_string TypeSynonym-to_string Use-to_string Declaration-to_string
declaration-texts = refl
