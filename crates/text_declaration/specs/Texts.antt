-- The texts of structs, enums, type synonyms and use lines at a place of an encoding.
use Rattle.std.specs.Prelude.{ℕ, Bool, true, false, List, ◌++◌, eqb}
use Rattle.rast.specs.Bytes.{Bytes, ascii}
use Rattle.rast.specs.Tree.{Ty}
use Rattle.rast.specs.Indent.{IND, indent, SeqToString}
use Rattle.rast.specs.Declaration.{Fields, EnumCase}
use Rattle.rast.specs.DeclarationToString.{Fields-to_string, struct_fields_text, EnumCase-to_string, Use-to_string, Declaration-to_string}
use Rattle.encoding.specs.Words.{named_kind}
use Rattle.encoding.specs.Refusals.{pick}
use Rattle.encoding.specs.Reading.{Reading, got}
use Rattle.encoding.specs.Scans.{map_reading}
use Rattle.encoding.specs.Tables.{name_bytes, name_count}
use Rattle.encoding.specs.Types.{type_at}
use Rattle.encoding.specs.Forms.{present}
use Rattle.encoding.specs.Declarations.{read_counted, read_fields, read_case, read_use, declaration_after, declaration_at}
use Rattle.text_pass.specs.Passes.{last, ◌then◌, run, listed}
use Rattle.text_pass.specs.Texts.{name_at, type_text_at, doc_at}
use Rattle.text_attributes.specs.Texts.{attributes_at}
use Rattle.text_parameters.specs.Texts.{parameters_at}
use Rattle.text_fields.specs.declared.Entry.{Entry}
use Rattle.text_fields.specs.declared.Entry.TheVariants.{Named, Inline, Lined}
use Rattle.text_fields.specs.Texts.{line_text, nameless_entry, list_at}

-- what stands before the name, by the head
unfoldable pub keyword_text : ℕ → Bytes
keyword_text head = pick (eqb head present.struct_head) (ascii "pub struct ") (pick (eqb head present.enum_head) (ascii "pub enum ") (ascii "pub type "))

-- what a list of fields is of, by the word before it
abbrev pub entry_of : Bool → ℕ → Entry
entry_of in_case kind = pick (eqb kind named_kind) Named (nameless_entry in_case)

-- the fields of a struct have a semicolon behind them, if they have no names
unfoldable pub fields_end : Entry → Bytes
fields_end Named = ascii ""
fields_end Inline = ascii ";"
fields_end Lined = ascii ""

-- the fields of a case, or of a struct
abbrev pub fields_text : Bool → Bytes → Fields Bytes → Bytes
fields_text true ind = Fields-to_string ind true
fields_text false ind = struct_fields_text ind

-- a case of an enum on its line; `ind` is the enum's
abbrev pub case_line_text : Bytes → EnumCase Bytes → Bytes
case_line_text ind c = ascii "\n" ++ ind ++ IND ++ EnumCase-to_string (ind ++ IND) true c

module _ (ws pairs : List ℕ) (text : Bytes) where
  abbrev bound : ℕ
  bound = name_count pairs

  abbrev name : ℕ → Bytes
  name = name_bytes pairs text

  abbrev type : ℕ → Reading (Ty Bytes)
  type = type_at ws pairs text

  -- fields behind the word that says which they are, and what stands behind them
  abbrev pub listed_at : Entry → ℕ → ℕ → Reading Bytes
  listed_at entry level at = run (list_at ws pairs text entry level at then λ p. last (got (fields_end entry) p))

  abbrev pub fields_at : Bool → ℕ → ℕ → Reading Bytes
  fields_at in_case level at = map_reading (fields_text in_case (indent level)) (read_fields bound ws name type at)

  abbrev pub case_at : ℕ → ℕ → Reading Bytes
  case_at level at = map_reading (EnumCase-to_string (indent level) true) (read_case bound ws name type at)

  -- a case on its line, at the level of the enum; n of them; and how many with them
  abbrev pub case_line_at : ℕ → ℕ → Reading Bytes
  case_line_at level at = map_reading (case_line_text (indent level)) (read_case bound ws name type at)

  abbrev pub cases_at : ℕ → ℕ → ℕ → Reading Bytes
  cases_at level n at = listed (case_line_at level) (ascii ",") n at

  abbrev pub variants_at : ℕ → ℕ → Reading Bytes
  variants_at level at = map_reading (SeqToString (case_line_text (indent level)) (ascii ",")) (read_counted ws (read_case bound ws name type) at)

  -- the keyword, the name and the parameters
  abbrev pub title_at : ℕ → ℕ → Reading Bytes
  title_at head at = run (got (keyword_text head) at then λ p. name_at ws pairs text p then λ q. last (parameters_at ws pairs text q))

  -- what a struct, an enum and a type synonym begin with
  abbrev pub front_at : ℕ → ℕ → ℕ → Reading Bytes
  front_at head level at = run (doc_at ws pairs text level at then λ p. attributes_at ws pairs text level p then λ q. last (title_at head q))

  -- what follows the front of an enum, and of a type synonym
  abbrev pub enum_body : ℕ → ℕ → Reading Bytes
  enum_body level at = run (got (ascii " {") at then λ p. variants_at level p then λ q. got (line_text level) q then λ r. last (got (ascii "}") r))

  abbrev pub synonym_body : ℕ → Reading Bytes
  synonym_body at = run (got (ascii " = ") at then λ p. type_text_at ws pairs text p then λ q. last (got (ascii ";") q))

  -- ---- declarations

  -- what follows the front, by the head, and both
  abbrev pub body_at : ℕ → ℕ → ℕ → Reading Bytes
  body_at head level at = pick (eqb head present.struct_head) (fields_at false level at) (pick (eqb head present.enum_head) (enum_body level at) (synonym_body at))

  abbrev pub fronted_at : ℕ → ℕ → ℕ → Reading Bytes
  fronted_at head level at = run (front_at head level at then λ p. last (body_at head level p))

  abbrev pub use_at : ℕ → Reading Bytes
  use_at at = map_reading Use-to_string (read_use bound ws name type at)

  -- what follows a head
  abbrev pub after_at : ℕ → ℕ → ℕ → Reading Bytes
  after_at head level at = map_reading (Declaration-to_string level) (declaration_after present bound ws name type head at)

  abbrev pub declaration_text_at : ℕ → ℕ → Reading Bytes
  declaration_text_at level at = map_reading (Declaration-to_string level) (declaration_at ws pairs text at)
