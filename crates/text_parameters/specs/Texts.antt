-- The texts of parameters at a place of an encoding.
use Rattle.std.specs.Prelude.{ℕ, List}
use Rattle.rast.specs.Bytes.{Bytes, ascii}
use Rattle.rast.specs.DeclarationToString.{constraints_text, TypeParamDecl-to_string, TypeParamDecl-to_string_multiple}
use Rattle.encoding.specs.Reading.{Reading}
use Rattle.encoding.specs.Scans.{map_reading}
use Rattle.encoding.specs.Tables.{name_bytes, name_count}
use Rattle.encoding.specs.Types.{type_at}
use Rattle.encoding.specs.Forms.{present}
use Rattle.encoding.specs.Declarations.{read_counted, read_parameter}
use Rattle.text_pass.specs.Passes.{listed}
use Rattle.text_pass.specs.Texts.{type_text_at}

module _ (ws pairs : List ℕ) (text : Bytes) where
  -- n constraints, and a count and that many of them
  abbrev pub some_constraints : ℕ → ℕ → Reading Bytes
  some_constraints n at = listed (type_text_at ws pairs text) (ascii " + ") n at

  abbrev pub constraints_at : ℕ → Reading Bytes
  constraints_at at = map_reading constraints_text (read_counted ws (type_at ws pairs text) at)

  abbrev pub parameter_at : ℕ → Reading Bytes
  parameter_at at = map_reading TypeParamDecl-to_string (read_parameter present (name_count pairs) ws (name_bytes pairs text) (type_at ws pairs text) at)

  -- n parameters, and a count and that many of them
  abbrev pub some_parameters : ℕ → ℕ → Reading Bytes
  some_parameters n at = listed parameter_at (ascii ", ") n at

  abbrev pub parameters_at : ℕ → Reading Bytes
  parameters_at at = map_reading TypeParamDecl-to_string_multiple (read_counted ws (read_parameter present (name_count pairs) ws (name_bytes pairs text) (type_at ws pairs text)) at)
