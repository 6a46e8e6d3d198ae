-- The texts of attributes at a place of an encoding.
use Rattle.std.specs.Prelude.{ℕ, List, [], ◌++◌}
use Rattle.rast.specs.Bytes.{Bytes, ascii}
use Rattle.rast.specs.Indent.{indent}
use Rattle.rast.specs.DeclarationToString.{derived_text, Attribute-to_string, Attribute-to_string_multiple}
use Rattle.encoding.specs.Reading.{Reading}
use Rattle.encoding.specs.Scans.{map_reading}
use Rattle.encoding.specs.Tables.{name_bytes, name_count}
use Rattle.encoding.specs.Types.{type_at}
use Rattle.encoding.specs.Declarations.{read_counted, read_attribute}
use Rattle.text_pass.specs.Passes.{listed}
use Rattle.text_pass.specs.Texts.{name_at}

module _ (ws pairs : List ℕ) (text : Bytes) where
  -- n arguments, and a count and that many of them
  abbrev pub some_arguments : ℕ → ℕ → Reading Bytes
  some_arguments n at = listed (name_at ws pairs text) (ascii ", ") n at

  abbrev pub derived_at : ℕ → Reading Bytes
  derived_at at = map_reading derived_text (read_counted ws (name_at ws pairs text) at)

  -- an attribute on its line: an item of `Attribute.ToStringMultiple`
  abbrev pub attribute_at : ℕ → ℕ → Reading Bytes
  attribute_at level at =
      map_reading (λ a. Attribute-to_string a ++ ascii "\n" ++ indent level) (read_attribute (name_count pairs) ws (name_bytes pairs text) (type_at ws pairs text) at)

  -- n attributes, and a count and that many of them
  abbrev pub some_attributes : ℕ → ℕ → ℕ → Reading Bytes
  some_attributes level n at = listed (attribute_at level) [] n at

  abbrev pub attributes_at : ℕ → ℕ → Reading Bytes
  attributes_at level at =
      map_reading (Attribute-to_string_multiple (indent level)) (read_counted ws (read_attribute (name_count pairs) ws (name_bytes pairs text) (type_at ws pairs text)) at)
