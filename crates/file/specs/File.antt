-- A file that holds a declaration's encoding, and what is printed for it.
use Rattle.std.specs.Prelude.{Ok, Err, ℕ, ◌+◌, ◌*◌, ◌/◌, ◌%◌, List, [], ◌∷◌, ◌++◌, leb, ltb, eqb, length, drop}
use Rattle.rast.specs.Bytes.{Bytes, ascii, ◌or◌}
use Rattle.encoding.specs.Words.{max_words, max_pairs, max_text}
use Rattle.encoding.specs.declared.Refusal.{Refusal}
use Rattle.encoding.specs.declared.Refusal.TheVariants.{Overlong, BufferTooShort, BadFileLength}
use Rattle.encoding.specs.Refusals.{pick, number, Answer}
use Rattle.little_endian.specs.Numbers.{number_at, numbers_at}
use Rattle.text_declaration_call.specs.Calls.{declaration_text}

-- behind the header, the pairs, the words and the text: the declaration's text at level 0
abbrev pub encoded_text : ℕ → ℕ → Bytes → Answer Bytes
encoded_text pairs words file =
    declaration_text (numbers_at words file (12 + 8 * pairs)) (numbers_at (2 * pairs) file 12) (drop (12 + 8 * pairs + 4 * words) file) 0

-- with the counts of pairs, words and text bytes that the header gives: the limits, and then the length that they ask for
unfoldable pub described_text : ℕ → ℕ → ℕ → Bytes → Answer Bytes
described_text pairs words text file =
    pick (ltb max_pairs pairs or ltb max_words words or ltb max_text text) (Err Overlong)
    (pick (eqb (length file) (12 + 8 * pairs + 4 * words + text)) (encoded_text pairs words file) (Err BadFileLength))

-- a file too short for a header is refused before all else
unfoldable pub file_text : Bytes → Answer Bytes
file_text file =
    pick (ltb (length file) 12) (Err BadFileLength)
    (described_text (number_at file 0) (number_at file 4) (number_at file 8) file)

-- a number below 100 by its digits; 48 is `0`
unfoldable pub decimal : ℕ → Bytes
decimal n = pick (ltb n 10) ((48 + n) ∷ []) ((48 + n / 10) ∷ (48 + n % 10) ∷ [])

unfoldable pub refusal_line : Refusal → Bytes
refusal_line r = ascii "refused " ++ decimal (number r) ++ ascii "\n"

-- an answer as it is printed: a text of at most 65,536 bytes and a newline, or the refusal
unfoldable pub printed : Answer Bytes → Bytes
printed (Ok text) = pick (leb (length text) 65536) (text ++ ascii "\n") (refusal_line BufferTooShort)
printed (Err r) = refusal_line r

unfoldable pub printed_file : Bytes → Bytes
printed_file file = printed (file_text file)

-- bytes that fill the front of a buffer: their length, and what the buffer holds then
abbrev pub at_front : Bytes → List ℕ → ℕ × List ℕ
at_front bytes buffer = (length bytes, bytes ++ drop (length bytes) buffer)
