-- What a pass does that writes bytes, or only counts them.
use Rattle.std.specs.Prelude.{ℕ, zero, suc, ◌+◌, ◌^◌, ◌≤◌, ◌≡◌, Bool, true, false, List, [], ◌∷◌, ltb, length}
use Rattle.buffer.specs.Wrote.{Wrote}

unfoldable pub at_most : Bool → ℕ → ℕ
at_most true n = n
at_most false n = 2 ^ 63

-- a count that reaches 2^63, which no buffer's length does, stays there: so no sum overflows
unfoldable pub clamp : ℕ → ℕ
unfolding at_most
clamp n = at_most (ltb n (2 ^ 63)) n

-- a pass that only counts leaves the buffer; two positions at or above the limit are not told apart
pub record Counted (o : List ℕ) (p : ℕ) (b : List ℕ) (o' : List ℕ) (p' : ℕ) : Type 0 where
  pub kept : o' ≡ o
  pub next : clamp p' ≡ clamp (p + length b)

-- the bytes b are written or counted
pub record Laid (write : Bool) (o : List ℕ) (p : ℕ) (b : List ℕ) (o' : List ℕ) (p' : ℕ) : Type 0 where
  pub wrote : write ≡ true → Wrote o p b o' p'
  pub counted : write ≡ false → Counted o p b o' p'

-- the bytes b have room in o from p on, if they are to be written
pub record Fits (write : Bool) (o : List ℕ) (p : ℕ) (b : List ℕ) : Type 0 where
  pub room : write ≡ true → p + length b ≤ length o

-- n spaces
unfoldable pub spaces : ℕ → List ℕ
spaces zero = []
spaces (suc n) = 32 ∷ spaces n
