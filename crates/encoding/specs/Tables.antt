-- Document 01's "sheet" is here an encoding: words, pairs and a text. What is asked of them before a word is read, and the bytes of names.
use Rattle.encoding.specs.declared.Refusal.{Refusal}
use Rattle.std.specs.Prelude.{Ok, Err, Result, ℕ, ◌+◌, ◌*◌, ◌-◌, ◌/◌, Bool, true, false, List, [], ◌∷◌, leb, ltb, length, get_or, take, drop}
use Rattle.rast.specs.Bytes.{Bytes, ascii, ◌and◌, ◌or◌}
use Rattle.encoding.specs.Words.{first_pair, max_words, max_pairs, max_text, max_level}
use Rattle.encoding.specs.declared.Refusal.TheVariants.{Overlong, BadPair, BadLevel}
use Rattle.encoding.specs.Refusals.{pick}

-- levels 0 to 16
unfoldable pub check_level : ℕ → Result (Unit {0}) Refusal
check_level level = pick (ltb max_level level) (Err BadLevel) (Ok tt)

-- a limit on words, whole pairs or text bytes is passed
unfoldable pub overlong : List ℕ → List ℕ → Bytes → Bool
overlong words pairs text = ltb max_words (length words) or ltb max_pairs (length pairs / 2) or ltb max_text (length text)

-- each pair, offset and length, begins at or behind the end of the one before and ends inside the text; half a pair does not
unfoldable pub good_pairs : List ℕ → ℕ → ℕ → Bool
good_pairs [] end size = true
good_pairs (offset ∷ []) end size = false
good_pairs (offset ∷ count ∷ pairs) end size =
    leb end offset and leb (offset + count) size and good_pairs pairs (offset + count) size

-- 1, then 2
unfoldable pub check_tables : List ℕ → List ℕ → Bytes → Result (Unit {0}) Refusal
check_tables words pairs text =
    pick (overlong words pairs text) (Err Overlong)
    (pick (good_pairs pairs 0 (length text)) (Ok tt) (Err BadPair))

-- name numbers 0 to 15
unfoldable pub fixed_names : List Bytes
fixed_names =
    ascii "" ∷ ascii "std" ∷ ascii "rc" ∷ ascii "Rc" ∷ ascii "sync" ∷ ascii "Arc" ∷ ascii "boxed" ∷ ascii "Box"
    ∷ ascii "mem" ∷ ascii "MaybeUninit" ∷ ascii "dafny_runtime" ∷ ascii "Object" ∷ ascii "Ptr"
    ∷ ascii "MaybePlacebo" ∷ ascii "_" ∷ ascii "self" ∷ []

-- the bytes of pair i
unfoldable pub pair_bytes : List ℕ → Bytes → ℕ → Bytes
pair_bytes pairs text i = take (get_or pairs (2 * i + 1) 0) (drop (get_or pairs (2 * i) 0) text)

-- the bytes of a name by its number: 16 + i is pair i
unfoldable pub name_bytes : List ℕ → Bytes → ℕ → Bytes
name_bytes pairs text x = pick (ltb x first_pair) (get_or fixed_names x []) (pair_bytes pairs text (x - first_pair))

-- how many name numbers there are
abbrev pub name_count : List ℕ → ℕ
name_count pairs = length pairs / 2 + first_pair
