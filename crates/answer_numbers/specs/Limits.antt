-- The limit below which a part's answer fits into one number.
use Rattle.encoding.specs.declared.Refusal.{Refusal}
use Rattle.std.specs.Prelude.{Ok, Result, ◌+◌, ◌≤◌, ◌≡◌}
use Rattle.encoding.specs.Words.{max_words}
use Rattle.parts.specs.declared.Span.{Span}

-- a part that lies within as many words as an encoding may have
pub record Small (answer : Result Span Refusal) : Type 0 where
  pub small : (s : Span) → answer ≡ Ok s → s.start + s.length ≤ max_words
