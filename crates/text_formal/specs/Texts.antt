-- The text of a field's name and type at a place of an encoding.
use Rattle.std.specs.Prelude.{ℕ, List}
use Rattle.rast.specs.Bytes.{Bytes, ascii}
use Rattle.rast.specs.DeclarationToString.{Formal-to_string}
use Rattle.encoding.specs.Reading.{Reading, got}
use Rattle.encoding.specs.Scans.{map_reading}
use Rattle.encoding.specs.Tables.{name_bytes, name_count}
use Rattle.encoding.specs.Types.{type_at}
use Rattle.encoding.specs.Declarations.{read_formal}
use Rattle.text_pass.specs.Passes.{last, ◌then◌, run}
use Rattle.text_pass.specs.Texts.{type_text_at}

module _ (ws pairs : List ℕ) (text : Bytes) where
  abbrev pub formal_at : ℕ → Reading Bytes
  formal_at at = map_reading Formal-to_string (read_formal (name_count pairs) ws (name_bytes pairs text) (type_at ws pairs text) at)

  -- the same behind the name x
  abbrev pub formal_of : ℕ → ℕ → Reading Bytes
  formal_of x at = map_reading (λ t. Formal-to_string (record { name = name_bytes pairs text x; tpe = t })) (type_at ws pairs text at)

  -- the name x, and the type behind it
  abbrev pub typed_at : ℕ → ℕ → Reading Bytes
  typed_at x at = run (got (name_bytes pairs text x) at then λ p. got (ascii ": ") p then λ q. last (type_text_at ws pairs text q))
