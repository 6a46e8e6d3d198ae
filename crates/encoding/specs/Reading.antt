-- Reading at a position of the words: a value and the position behind it, or the refusal that is met first.
use Rattle.std.specs.Prelude.{Ok, Err, ℕ, zero, suc, ◌+◌, List, ltb, eqb, length, get_or}
use Rattle.encoding.specs.declared.Refusal.{Refusal}
use Rattle.encoding.specs.declared.Refusal.TheVariants.{EndsEarly, UnknownWord, LeftOver}
use Rattle.encoding.specs.Refusals.{pick, Answer}

pub data Reading (A : Type 0) : Type 0 where
  got : A → ℕ → Reading A
  stop : Refusal → Reading A

-- what follows is read where the first reading ended
infixl 10 ◌>>=◌
abbrev pub ◌>>=◌ : {A B : Type 0} → Reading A → (A → ℕ → Reading B) → Reading B
got a n >>= f = f a n
stop r >>= f = stop r

unfoldable pub read_word : List ℕ → ℕ → Reading ℕ
read_word ws at = pick (ltb at (length ws)) (got (get_or ws at 0) (at + 1)) (stop EndsEarly)

-- a word below a bound; any other is unknown there
unfoldable pub read_below : ℕ → List ℕ → ℕ → Reading ℕ
read_below bound ws at = read_word ws at >>= λ w p. pick (ltb w bound) (got w p) (stop UnknownWord)

-- n names
unfoldable pub read_names : ℕ → List ℕ → ℕ → ℕ → Reading (Unit {0})
read_names bound ws zero at = got tt at
read_names bound ws (suc n) at = read_below bound ws at >>= λ x p. read_names bound ws n p

-- the words are read to their end, or some are left over
unfoldable pub whole : {A : Type 0} → ℕ → Reading A → Answer A
whole size (got a n) = pick (eqb n size) (Ok a) (Err LeftOver)
whole size (stop r) = Err r
