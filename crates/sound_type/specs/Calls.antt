-- The public answer.
use Rattle.std.specs.Prelude.{ℕ, Bool, List}
use Rattle.rast.specs.Bytes.{Bytes}
use Rattle.rast.specs.Sound.{sound}
use Rattle.encoding.specs.Refusals.{Answer, map_answer}
use Rattle.encoding.specs.Types.{type_of}

-- whether the type that an encoding holds is sound
unfoldable pub type_is_sound : List ℕ → List ℕ → Bytes → Answer Bool
type_is_sound words pairs text = map_answer sound (type_of words pairs text)
