-- Little-endian numbers in bytes.
use Rattle.std.specs.Prelude.{ℕ, zero, suc, ◌+◌, ◌*◌, List, [], ◌∷◌, get_or}

-- four bytes, the lowest first
abbrev pub from_bytes : ℕ → ℕ → ℕ → ℕ → ℕ
from_bytes a b c d = a + 256 * b + 65536 * c + 16777216 * d

-- the number whose four bytes begin at a position
abbrev pub number_at : List ℕ → ℕ → ℕ
number_at bytes at =
    from_bytes (get_or bytes at 0) (get_or bytes (at + 1) 0) (get_or bytes (at + 2) 0) (get_or bytes (at + 3) 0)

-- that many numbers, one behind the other, from a position on
unfoldable pub numbers_at : ℕ → List ℕ → ℕ → List ℕ
numbers_at zero bytes at = []
numbers_at (suc n) bytes at = number_at bytes at ∷ numbers_at n bytes (at + 4)
