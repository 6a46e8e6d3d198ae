-- Pieces of text around a name, and the ends of a short text.
use Rattle.std.specs.Prelude.{Option, ℕ, ◌-◌, ◌/◌, ◌%◌, ◌≤◌, ◌≡◌, [], ◌∷◌, ◌++◌, length, take, drop}
use Rattle.rast.specs.Bytes.{Bytes, ascii}
use Rattle.rast.specs.ToString.{size_text}

-- what a path's text gains by a name
abbrev pub member_text : Bytes → Bytes
member_text x = ascii "::" ++ x

-- the end of an array's text
abbrev pub end_text : Option Bytes → Bytes
end_text s = size_text s ++ ascii "]"

-- two bytes that are held as one number, the first one low
unfoldable pub two_bytes : ℕ → Bytes
two_bytes n = n % 256 ∷ n / 256 ∷ []

-- a text of two to four bytes, by its first two and its last two
pub record HasEnds (b : Bytes) (count first last : ℕ) : Type 0 where
  pub size : count ≡ length b
  pub long : 2 ≤ length b
  pub short : length b ≤ 4
  pub front : take 2 b ≡ two_bytes first
  pub back : take 2 (drop (length b - 2) b) ≡ two_bytes last
