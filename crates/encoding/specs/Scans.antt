-- The code's answers, from the readings that they stand for, and a reading of something else from one.
use Rattle.encoding.specs.declared.Refusal.{Refusal}
use Rattle.std.specs.Prelude.{Ok, Err, Result, ℕ, eqb}
use Rattle.encoding.specs.Words.{identifier_kind, type_app_kind, tuple_kind, fn_kind, array_kind}
use Rattle.encoding.specs.declared.Head.{Head}
use Rattle.encoding.specs.declared.Head.TheVariants.{Name, Apply, Tuple, Function, ArrayOf, Meta}
use Rattle.encoding.specs.Refusals.{pick}
use Rattle.encoding.specs.Reading.{Reading, got, stop}

-- what was read, and the position behind it
abbrev pub scan_of : {A : Type 0} → Reading A → Result (A × ℕ) Refusal
scan_of (got a n) = Ok (a, n)
scan_of (stop r) = Err r

-- where a reading ended, its value left out
abbrev pub ended : {A : Type 0} → Reading A → Result ℕ Refusal
ended (got a n) = Ok n
ended (stop r) = Err r

-- the head of a kind that has one own word
unfoldable pub head_of : ℕ → ℕ → Head
head_of w x =
    pick (eqb w identifier_kind) (Name x) (pick (eqb w type_app_kind) (Apply x) (pick (eqb w tuple_kind) (Tuple x) (pick (eqb w fn_kind) (Function x) (pick (eqb w array_kind) (ArrayOf x) (Meta x)))))

abbrev pub own_word : ℕ → Result (ℕ × ℕ) Refusal → Result (Head × ℕ) Refusal
own_word w (Ok (x, n)) = Ok (head_of w x, n)
own_word w (Err r) = Err r

-- what was read, made into something else
unfoldable pub map_reading : {A B : Type 0} → (A → B) → Reading A → Reading B
map_reading f (got a n) = got (f a) n
map_reading f (stop r) = stop r
