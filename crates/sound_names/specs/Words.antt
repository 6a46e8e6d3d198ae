-- The words that are no names, as the program holds them, and runs of letters, underscores and digits.
use Rattle.std.specs.Prelude.{ℕ, ◌≤◌, ◌<◌, ◌≡◌, Bool, true, List, [], ◌∷◌, eqb, get_or}
use Rattle.rast.specs.Bytes.{Bytes, ascii, ◌or◌}
use Rattle.rast.specs.Sound.{is_word_byte}

-- the words that are no names, one behind the other
unfoldable pub letters : Bytes
letters = ascii "u8u16u32u64u128i8i16i32i64i128usizeboolmutimpldyncrateSelf"

-- where each of them starts there, and how long it is
unfoldable pub word_starts : List ℕ
word_starts = 0 ∷ 2 ∷ 5 ∷ 8 ∷ 11 ∷ 15 ∷ 17 ∷ 20 ∷ 23 ∷ 26 ∷ 30 ∷ 35 ∷ 39 ∷ 42 ∷ 46 ∷ 49 ∷ 54 ∷ []

unfoldable pub word_lengths : List ℕ
word_lengths = 2 ∷ 3 ∷ 3 ∷ 3 ∷ 4 ∷ 2 ∷ 3 ∷ 3 ∷ 3 ∷ 4 ∷ 5 ∷ 4 ∷ 3 ∷ 4 ∷ 3 ∷ 5 ∷ 4 ∷ []

-- what a word that is no name may begin with
unfoldable pub begins_excluded : ℕ → Bool
begins_excluded x = eqb x 83 or eqb x 98 or eqb x 99 or eqb x 100 or eqb x 105 or eqb x 109 or eqb x 117

-- from start to end there are letters, underscores and digits
abbrev pub WordBytes : Bytes → ℕ → ℕ → Type 0
WordBytes text start end = (i : ℕ) → start ≤ i → i < end → is_word_byte (get_or text i 0) ≡ true
