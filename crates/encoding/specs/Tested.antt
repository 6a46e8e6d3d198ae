-- The tests of a call as one, what tables that passed them keep, and how the code holds the fixed names.
use Rattle.encoding.specs.declared.Refusal.{Refusal}
use Rattle.std.specs.Prelude.{Ok, Err, Result, ℕ, ◌+◌, ◌*◌, ◌-◌, ◌^◌, ◌/◌, ◌%◌, ◌≤◌, ◌<◌, ◌≡◌, true, List, [], ltb, length, get_or, take, drop}
use Rattle.rast.specs.Bytes.{Bytes}
use Rattle.encoding.specs.Words.{first_pair}
use Rattle.encoding.specs.Refusals.{pick}
use Rattle.encoding.specs.Tables.{check_level, good_pairs, check_tables, fixed_names}

-- the second of two tests, if the first passed
abbrev pub behind : Result (Unit {0}) Refusal → Result (Unit {0}) Refusal → Result (Unit {0}) Refusal
behind (Ok tt) c = c
behind (Err r) c = Err r

-- what is tested before anything is printed: the level, then the tables
unfoldable pub check_call : List ℕ → List ℕ → Bytes → ℕ → Result (Unit {0}) Refusal
check_call words pairs text level = behind (check_level level) (check_tables words pairs text)

-- the digit at a place, from the right, of a number's hexadecimal digits
unfoldable pub digit_at : ℕ → ℕ → ℕ
digit_at table place = table / 2 ^ (4 * place) % 16

-- the letters hold each fixed name from its start on
pub record HoldsNames (letters : Bytes) (starts : List ℕ) : Type 0 where
  pub part : (k : ℕ) → k < first_pair → take (length (get_or fixed_names k [])) (drop (get_or starts k 0) letters) ≡ get_or fixed_names k []
  pub inside : (k : ℕ) → k < first_pair → get_or starts k 0 + length (get_or fixed_names k []) ≤ 75
  pub size : length letters ≡ 75

-- how long a name is, by the table of pairs alone
unfoldable pub name_length : List ℕ → ℕ → ℕ
name_length pairs x = pick (ltb x first_pair) (length (get_or fixed_names x [])) (get_or pairs (2 * (x - first_pair) + 1) 0)

-- the pairs keep the table's rule
abbrev pub Good : List ℕ → Bytes → Type 0
Good pairs text = good_pairs pairs 0 (length text) ≡ true
