-- The texts of what stands at a place of an encoding.
use Rattle.std.specs.Prelude.{ℕ, List}
use Rattle.rast.specs.Bytes.{Bytes}
use Rattle.rast.specs.ToString.{Path-to_string, Type-to_string}
use Rattle.rast.specs.Indent.{indent}
use Rattle.rast.specs.Doc.{ToDocstringPrefix}
use Rattle.rast.specs.DeclarationToString.{Visibility-to_string}
use Rattle.encoding.specs.Reading.{Reading}
use Rattle.encoding.specs.Scans.{map_reading}
use Rattle.encoding.specs.Tables.{name_bytes, name_count}
use Rattle.encoding.specs.Heads.{read_path}
use Rattle.encoding.specs.Types.{path_of, type_at}
use Rattle.encoding.specs.Declarations.{read_visibility, read_name}

abbrev pub visibility_at : List ℕ → ℕ → Reading Bytes
visibility_at ws at = map_reading Visibility-to_string (read_visibility ws at)

module _ (ws pairs : List ℕ) (text : Bytes) where
  abbrev pub name_at : ℕ → Reading Bytes
  name_at at = read_name (name_count pairs) ws (name_bytes pairs text) (type_at ws pairs text) at

  abbrev pub type_text_at : ℕ → Reading Bytes
  type_text_at at = map_reading Type-to_string (type_at ws pairs text at)

  abbrev pub path_text_at : ℕ → Reading Bytes
  path_text_at at = map_reading (λ x. Path-to_string (path_of ws (name_bytes pairs text) x)) (read_path (name_count pairs) ws at)

  abbrev pub doc_at : ℕ → ℕ → Reading Bytes
  doc_at level at = map_reading (λ d. ToDocstringPrefix d (indent level)) (name_at at)
