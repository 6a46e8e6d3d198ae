-- Lines: the indent that the source hands down, and `SeqToString`.
use Rattle.std.specs.Prelude.{ℕ, zero, suc, List, [], ◌∷◌, ◌++◌}
use Rattle.rast.specs.Bytes.{Bytes, ascii}

-- `IND`
unfoldable pub IND : Bytes
IND = ascii "    "

-- the indent of a level
unfoldable pub indent : ℕ → Bytes
indent zero = ascii ""
indent (suc level) = indent level ++ IND

-- `SeqToString`: the separator stands behind each but the last
unfoldable pub SeqToString : {A : Type 0} → (A → Bytes) → Bytes → List A → Bytes
SeqToString f separator [] = ascii ""
SeqToString f separator (x ∷ []) = f x
SeqToString f separator (x ∷ (y ∷ ys)) = f x ++ (separator ++ SeqToString f separator (y ∷ ys))
