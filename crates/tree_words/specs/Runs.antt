-- A run of words: some words stand in others from a position on.
use Rattle.std.specs.Prelude.{ℕ, ◌+◌, ◌≤◌, ◌≡◌, List, length, take, drop}

pub record Run (ws : List ℕ) (at : ℕ) (b : List ℕ) : Type 0 where
  pub ends : at + length b ≤ length ws
  pub words : take (length b) (drop at ws) ≡ b
