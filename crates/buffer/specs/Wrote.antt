-- What a writer does to its buffer.
use Rattle.std.specs.Prelude.{ℕ, ◌+◌, ◌≡◌, List, length}
use Rattle.std.proofs.lemmas.List.Edits.{sets}

-- the bytes b stand in o from p on, and the position behind them is p'
pub record Wrote (o : List ℕ) (p : ℕ) (b : List ℕ) (o' : List ℕ) (p' : ℕ) : Type 0 where
  pub bytes : o' ≡ sets o p b
  pub next : p' ≡ p + length b
