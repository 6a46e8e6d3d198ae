-- The texts of fields and of lists of fields at a place of an encoding.
use Rattle.std.specs.Prelude.{ℕ, ◌+◌, Bool, true, false, List, ◌++◌}
use Rattle.rast.specs.Bytes.{Bytes, ascii}
use Rattle.rast.specs.Tree.{Ty}
use Rattle.rast.specs.Indent.{indent}
use Rattle.rast.specs.Declaration.{NamedFields, NamelessFields}
use Rattle.rast.specs.DeclarationToString.{Field-to_string, NamelessField-to_string, separator_text, Fields-to_string}
use Rattle.encoding.specs.Reading.{Reading, got}
use Rattle.encoding.specs.Scans.{map_reading}
use Rattle.encoding.specs.Tables.{name_bytes, name_count}
use Rattle.encoding.specs.Types.{type_at}
use Rattle.encoding.specs.Declarations.{read_counted, read_field, read_nameless_field}
use Rattle.text_pass.specs.Passes.{last, ◌then◌, run, listed}
use Rattle.text_pass.specs.Texts.{type_text_at}
use Rattle.text_formal.specs.Texts.{formal_at}
use Rattle.text_fields.specs.declared.Entry.{Entry}
use Rattle.text_fields.specs.declared.Entry.TheVariants.{Named, Inline, Lined}

-- a newline, and the indent of a level
abbrev pub line_text : ℕ → Bytes
line_text level = ascii "\n" ++ indent level

-- whether the fields of a list have names
abbrev pub are_named : Entry → Bool
are_named Named = true
are_named Inline = false
are_named Lined = false

-- what stands between two of them
unfoldable pub entry_gap : Entry → ℕ → Bytes
entry_gap Named level = separator_text (indent level) true
entry_gap Inline level = separator_text (indent level) false
entry_gap Lined level = separator_text (indent level) true

-- what stands around fields with names and without, and for none of them
unfoldable pub list_front : Bool → ℕ → Bytes
list_front true level = ascii " {" ++ line_text (level + 1)
list_front false level = ascii "("

unfoldable pub list_end : Bool → ℕ → Bytes
list_end true level = line_text level ++ ascii "}"
list_end false level = ascii ")"

unfoldable pub no_fields : Bool → Bytes
no_fields true = ascii " {}"
no_fields false = ascii "()"

-- fields without names stand on lines of their own, or not
abbrev pub nameless_entry : Bool → Entry
nameless_entry true = Lined
nameless_entry false = Inline

module _ (ws pairs : List ℕ) (text : Bytes) where
  abbrev bound : ℕ
  bound = name_count pairs

  abbrev name : ℕ → Bytes
  name = name_bytes pairs text

  abbrev type : ℕ → Reading (Ty Bytes)
  type = type_at ws pairs text

  -- a field with a name, or without
  abbrev pub field_at : Bool → ℕ → Reading Bytes
  field_at true at = map_reading Field-to_string (read_field bound ws name type at)
  field_at false at = map_reading NamelessField-to_string (read_nameless_field bound ws name type at)

  -- what follows a field's visibility
  abbrev pub rest_at : Bool → ℕ → Reading Bytes
  rest_at true at = formal_at ws pairs text at
  rest_at false at = type_text_at ws pairs text at

  -- one of a list, n of them, and these with what stands around them
  abbrev pub entry_at : Entry → ℕ → Reading Bytes
  entry_at entry at = field_at (are_named entry) at

  abbrev pub entries_at : Entry → ℕ → ℕ → ℕ → Reading Bytes
  entries_at entry level n at = listed (entry_at entry) (entry_gap entry level) n at

  abbrev pub some_at : Entry → ℕ → ℕ → ℕ → Reading Bytes
  some_at entry level n at =
      run (got (list_front (are_named entry) level) at then λ p. entries_at entry level n p then λ q. last (got (list_end (are_named entry) level) q))

  -- how many, and then these: fields behind the word that says which they are
  abbrev pub named_at : ℕ → ℕ → Reading Bytes
  named_at level at = map_reading (λ xs. Fields-to_string (indent level) true (NamedFields xs)) (read_counted ws (read_field bound ws name type) at)

  abbrev pub nameless_fields_at : Bool → ℕ → ℕ → Reading Bytes
  nameless_fields_at newLine level at = map_reading (λ xs. Fields-to_string (indent level) newLine (NamelessFields xs)) (read_counted ws (read_nameless_field bound ws name type) at)

  abbrev pub list_at : Entry → ℕ → ℕ → Reading Bytes
  list_at Named level at = named_at level at
  list_at Inline level at = nameless_fields_at false level at
  list_at Lined level at = nameless_fields_at true level at
