-- A type where it stands: the position of its first word, and the type.
use Rattle.std.specs.Prelude.{ℕ}
use Rattle.rast.specs.Tree.{Ty}

pub record Place (N : Type 0) : Type 0 where
  pub at : ℕ
  pub tpe : Ty N

-- a type that stands at a position
abbrev pub place : {N : Type 0} → ℕ → Ty N → Place N
place p t = record { at = p; tpe = t }
