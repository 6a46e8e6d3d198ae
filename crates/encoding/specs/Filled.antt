-- What a call leaves in the buffer that it is lent.
use Rattle.std.specs.Prelude.{Ok, Err, ℕ, List, ◌++◌, leb, length, drop}
use Rattle.encoding.specs.declared.Refusal.TheVariants.{BufferTooShort}
use Rattle.encoding.specs.Refusals.{pick, Answer}

-- a result fills the front of the buffer, and the rest is unchanged; a refusal leaves all of it, and 8 comes after every other
unfoldable pub filled : List ℕ → Answer (List ℕ) → Answer ℕ × List ℕ
filled o (Ok b) = pick (leb (length b) (length o)) (Ok (length b), b ++ drop (length b) o) (Err BufferTooShort, o)
filled o (Err r) = (Err r, o)
