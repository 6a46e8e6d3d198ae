-- Where the parts of a declaration end, of an encoding.
use Rattle.encoding.specs.declared.Refusal.{Refusal}
use Rattle.std.specs.Prelude.{Ok, Err, Result, ℕ, List, eqb}
use Rattle.rast.specs.Bytes.{Bytes}
use Rattle.rast.specs.Tree.{Ty}
use Rattle.rast.specs.Declaration.{Declaration, TypeParamDecl, Formal, Field, NamelessField, Fields, EnumCase, Struct, Enum, TypeSynonym}
use Rattle.encoding.specs.Words.{visibility_count, named_kind}
use Rattle.encoding.specs.Refusals.{pick}
use Rattle.encoding.specs.Reading.{Reading, read_below}
use Rattle.encoding.specs.Scans.{ended}
use Rattle.encoding.specs.Tables.{name_bytes, name_count}
use Rattle.encoding.specs.Heads.{read_path}
use Rattle.encoding.specs.Types.{type_at}
use Rattle.encoding.specs.Forms.{present}
use Rattle.encoding.specs.Declarations.{read_list, read_counted, read_parameter, read_formal, read_field, read_nameless_field, read_fields, read_case, read_struct, read_enum, read_type_synonym, declaration_at}
use Rattle.accept_declaration.specs.declared.Whole.{Whole}
use Rattle.accept_declaration.specs.declared.Whole.TheVariants.{AType, ADeclaration}
use Rattle.declaration_walk.specs.Walks.{read_attributes}

-- what follows is looked for where the first ended
abbrev pub then_at : Result ℕ Refusal → (ℕ → Result ℕ Refusal) → Result ℕ Refusal
then_at (Ok n) f = f n
then_at (Err r) f = Err r

-- a use: visibility and path
abbrev pub use_end : ℕ → List ℕ → ℕ → Result ℕ Refusal
use_end bound ws at = then_at (ended (read_below visibility_count ws at)) λ p. ended (read_path bound ws p)

module _ (ws pairs : List ℕ) (text : Bytes) where
  abbrev pub parameter_at : ℕ → Reading (TypeParamDecl Bytes)
  parameter_at at = read_parameter present (name_count pairs) ws (name_bytes pairs text) (type_at ws pairs text) at

  abbrev pub formal_at : ℕ → Reading (Formal Bytes)
  formal_at at = read_formal (name_count pairs) ws (name_bytes pairs text) (type_at ws pairs text) at

  abbrev pub field_at : ℕ → Reading (Field Bytes)
  field_at at = read_field (name_count pairs) ws (name_bytes pairs text) (type_at ws pairs text) at

  abbrev pub nameless_at : ℕ → Reading (NamelessField Bytes)
  nameless_at at = read_nameless_field (name_count pairs) ws (name_bytes pairs text) (type_at ws pairs text) at

  -- a field of a kind (0 named, 1 nameless), and n of them
  abbrev pub field_end : ℕ → ℕ → Result ℕ Refusal
  field_end kind at = pick (eqb kind named_kind) (ended (field_at at)) (ended (nameless_at at))

  abbrev pub each_field_end : ℕ → ℕ → ℕ → Result ℕ Refusal
  each_field_end kind n at = pick (eqb kind named_kind) (ended (read_list field_at n at)) (ended (read_list nameless_at n at))

  abbrev pub fields_at : ℕ → Reading (Fields Bytes)
  fields_at at = read_fields (name_count pairs) ws (name_bytes pairs text) (type_at ws pairs text) at

  abbrev pub case_at : ℕ → Reading (EnumCase Bytes)
  case_at at = read_case (name_count pairs) ws (name_bytes pairs text) (type_at ws pairs text) at

  -- a name, and the parameters behind it
  abbrev pub signature_end : ℕ → Result ℕ Refusal
  signature_end at = then_at (ended (read_below (name_count pairs) ws at)) λ p. ended (read_counted ws parameter_at p)

  -- what a struct, an enum and a type synonym begin with: doc, attributes, name, parameters
  abbrev pub heading_end : ℕ → Result ℕ Refusal
  heading_end at = then_at (ended (read_below (name_count pairs) ws at)) λ p. then_at (ended (read_attributes (name_count pairs) ws p)) signature_end

  abbrev pub struct_at : ℕ → Reading (Struct Bytes)
  struct_at at = read_struct present (name_count pairs) ws (name_bytes pairs text) (type_at ws pairs text) at

  abbrev pub enum_at : ℕ → Reading (Enum Bytes)
  enum_at at = read_enum present (name_count pairs) ws (name_bytes pairs text) (type_at ws pairs text) at

  abbrev pub synonym_at : ℕ → Reading (TypeSynonym Bytes)
  synonym_at at = read_type_synonym present (name_count pairs) ws (name_bytes pairs text) (type_at ws pairs text) at

-- what an encoding holds, a type or a declaration, read at the front of the words
abbrev pub Held : Whole → Type 0
Held AType = Ty Bytes
Held ADeclaration = Declaration Bytes

abbrev pub held_at : (what : Whole) → List ℕ → List ℕ → Bytes → Reading (Held what)
held_at AType words pairs text = type_at words pairs text 0
held_at ADeclaration words pairs text = declaration_at words pairs text 0
