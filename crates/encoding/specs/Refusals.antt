-- Document 01's table of refusals: the number of each, and the answers that carry them.
use Rattle.std.specs.Prelude.{Ok, Err, Result, ℕ, Bool, true, false}
use Rattle.encoding.specs.declared.Refusal.{Refusal}
use Rattle.encoding.specs.declared.Refusal.TheVariants.{Overlong, BadPair, EndsEarly, UnknownWord, TooDeep, LeftOver, NoSuchPart, BufferTooShort, BadFileLength, RepeatedRule, BadLevel}

-- the first if the test holds, else the second
abbrev pub pick : {A : Type 0} → Bool → A → A → A
pick true a b = a
pick false a b = b

-- the table's first column
abbrev pub number : Refusal → ℕ
number Overlong = 1
number BadPair = 2
number EndsEarly = 3
number UnknownWord = 4
number TooDeep = 5
number LeftOver = 6
number NoSuchPart = 7
number BufferTooShort = 8
number BadFileLength = 9
number RepeatedRule = 10
number BadLevel = 11

-- what a call gives
abbrev pub Answer : Type 0 → Type 0
Answer A = Result A Refusal

unfoldable pub map_answer : {A B : Type 0} → (A → B) → Answer A → Answer B
map_answer f (Ok a) = Ok (f a)
map_answer f (Err r) = Err r

-- the answer, unless a test failed before it
unfoldable pub unless : {A : Type 0} → Result (Unit {0}) Refusal → Answer A → Answer A
unless (Ok tt) a = a
unless (Err r) a = Err r
