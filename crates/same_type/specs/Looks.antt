-- What the words of two runs tell as they are, without knowing what is due.
use Rattle.std.specs.Prelude.{ℕ, Bool, true, false, List, [], ◌∷◌, eqb, ltb}
use Rattle.rast.specs.Bytes.{Bytes, same}
use Rattle.encoding.specs.Words.{array_kind, first_pair}
use Rattle.encoding.specs.Refusals.{pick}
use Rattle.same_type.specs.declared.Look.{Look}
use Rattle.same_type.specs.declared.Look.TheVariants.{Same, Apart, Unclear}

-- different words that never agree
unfoldable pub apart : ℕ → ℕ → Bool
apart x y = pick (eqb x y) false (pick (ltb x first_pair) (ltb y first_pair) false)

unfoldable pub alike : Bool → ℕ → ℕ → Bool
alike equal x y = pick (eqb x y) equal false

-- two runs, behind words that are equal or not
unfoldable pub looks : Bool → List ℕ → List ℕ → Look
looks equal [] ys = pick equal Same Unclear
looks equal (x ∷ xs) [] = Unclear
looks equal (x ∷ xs) (y ∷ ys) = pick (apart x y) Apart (looks (alike equal x y) xs ys)

unfoldable pub told_apart : Look → Bool
told_apart Same = false
told_apart Apart = true
told_apart Unclear = false

-- words that agree behind another where something is due: as they are or as names; behind the kind of an array, where sizes stand, any
unfoldable pub may_agree : (ℕ → Bytes) → ℕ → ℕ → ℕ → Bool
may_agree name before x y = pick (eqb before array_kind) true (same (name x) (name y))
