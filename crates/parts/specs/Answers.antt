-- The answers of the part calls: where the part of the type that an encoding holds stands, and its words.
use Rattle.std.specs.Prelude.{Option, Some, None, Ok, Err, ℕ, List, [], take, drop}
use Rattle.rast.specs.Bytes.{Bytes}
use Rattle.rast.specs.Tree.{Ty}
use Rattle.encoding.specs.declared.Refusal.TheVariants.{NoSuchPart}
use Rattle.encoding.specs.Refusals.{Answer}
use Rattle.parts.specs.declared.Span.{Span}
use Rattle.encoding.specs.Types.{type_of}
use Rattle.tree_words.specs.Encode.{words}
use Rattle.tree_words.specs.Places.{Place, place}

-- 7 where there is no part
unfoldable pub span_of : Option (Place Bytes) → Answer Span
span_of None = Err NoSuchPart
span_of (Some p) = Ok (record { start = p.at; length = words p.tpe })

unfoldable pub span_in : (Place Bytes → Option (Place Bytes)) → Answer (Ty Bytes) → Answer Span
span_in f (Ok t) = span_of (f (place 0 t))
span_in f (Err r) = Err r

-- the part f of the type that an encoding holds
unfoldable pub part_of : (Place Bytes → Option (Place Bytes)) → List ℕ → List ℕ → Bytes → Answer Span
part_of f ws pairs text = span_in f (type_of ws pairs text)

-- the words of the part, none when refused
unfoldable pub part_words : List ℕ → Answer Span → List ℕ
part_words ws (Ok s) = take s.length (drop s.start ws)
part_words ws (Err r) = []
