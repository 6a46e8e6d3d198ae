-- Document 01's whole example and its marked cases (a) to (k), in its order: what the definitions give on these inputs, and what document 01 says.
-- The definitions are those that the public calls' contracts cite. Texts and visit lists are stated before they meet a buffer, so they hold for every buffer.
use Rattle.std.specs.Prelude.{Ok, Result, true, false, ◌≡◌, ℕ, List, [], ◌∷◌, ◌++◌, replicate}
use Rattle.rast.specs.Bytes.{Bytes, ascii}
use Rattle.encoding.specs.Refusals.{map_answer}
use Rattle.encoding.specs.Types.{type_of}
use Rattle.text_calls.specs.Calls.{type_text}
use Rattle.text_declaration_call.specs.Calls.{declaration_text}
use Rattle.file.specs.File.{printed_file}
use Rattle.sound_type.specs.Calls.{type_is_sound}
use Rattle.visits.specs.Visited.{type_visits, declaration_visits}
use Rattle.shapes.specs.Shapes.{IsAutoSize}
use Rattle.shapes.specs.Parts.{ExpandAt}
use Rattle.parts.specs.Answers.{part_of, part_words}
use Rattle.rebuild_type.specs.Calls.{laid_down, type_rebuilt}
use Rattle.rebuild_initial.specs.Calls.{type_initialized}

-- what a definition gives on some input, and what document 01 says that it gives
pub record Claim : Type 1 where
  pub Result : Type 0
  pub answer : Result
  pub stated : Result

infix 10 ◌is◌
abbrev pub ◌is◌ : {A : Type 0} → A → A → Claim
◌is◌ {A} a b = record { Result = A; answer = a; stated = b }

abbrev pub Holds : Claim → Type 0
Holds c = c.answer ≡ c.stated

abbrev pub AllHold : List Claim → Type 0
AllHold [] = Unit {0}
AllHold (c ∷ cs) = Holds c × AllHold cs

-- ---- the inputs

-- (0,5) `Gauge`, (5,13) `Offset in mm.`, (18,2) `mm`, (20,2) `id`: names 16 to 19
unfoldable pub pairs : List ℕ
pairs = 0 ∷ 5 ∷ 5 ∷ 13 ∷ 18 ∷ 2 ∷ 20 ∷ 2 ∷ []

unfoldable pub text : Bytes
text = ascii "GaugeOffset in mm.mmid"

-- the whole example: a struct with doc 17, no attributes, name 16, no parameters, two named fields: public 18 of type i32, private 19 of type &u8
unfoldable pub example : List ℕ
example = 25 ∷ 17 ∷ 0 ∷ 16 ∷ 0 ∷ 0 ∷ 2 ∷ 0 ∷ 18 ∷ 7 ∷ 1 ∷ 19 ∷ 15 ∷ 0 ∷ []

-- numbers below 256, each as four bytes, the lowest first
unfoldable pub little_endian : List ℕ → Bytes
little_endian [] = []
little_endian (n ∷ ns) = n ∷ 0 ∷ 0 ∷ 0 ∷ little_endian ns

-- the whole example as a file: 4 pairs, 14 words, 22 bytes of text, and then these
unfoldable pub example_file : Bytes
example_file = little_endian (4 ∷ 14 ∷ 22 ∷ []) ++ little_endian pairs ++ little_endian example ++ text

-- and its text
unfoldable pub example_text : Bytes
example_text = ascii "/// Offset in mm.\npub struct Gauge {\n    pub mm: i32,\n    id: &u8\n}"

-- a struct without fields, its name pair 0 and its doc pair 1
unfoldable pub documented : List ℕ
documented = 25 ∷ 17 ∷ 0 ∷ 16 ∷ 0 ∷ 0 ∷ 0 ∷ []

-- ---- the claims

unfoldable pub marked_cases : List Claim
marked_cases =
    -- the whole example: its text at level 0; as a file, with a newline; and the program's other answer, here to an empty file
    (declaration_text example pairs text 0 is Ok example_text)
    ∷ (printed_file example_file is example_text ++ ascii "\n")
    ∷ (printed_file [] is ascii "refused 9\n")
    -- (a) an application to one argument: text, visits
    ∷ (type_text (14 ∷ 1 ∷ 12 ∷ 16 ∷ 0 ∷ []) pairs text 0 is Ok (ascii "Gauge<u8>"))
    ∷ (type_visits (14 ∷ 1 ∷ 12 ∷ 16 ∷ 0 ∷ []) pairs text is Ok (0 ∷ 2 ∷ 4 ∷ []))
    -- (b) an application to no argument: text, soundness
    ∷ (type_text (14 ∷ 0 ∷ 12 ∷ 16 ∷ []) pairs text 0 is Ok (ascii "Gauge"))
    ∷ ((type_is_sound (14 ∷ 0 ∷ 12 ∷ 16 ∷ []) pairs text) is (Ok false))
    -- (c) the path `Global` alone: empty text, unsound
    ∷ (type_text (13 ∷ 0 ∷ 0 ∷ []) pairs text 0 is Ok (ascii ""))
    ∷ ((type_is_sound (13 ∷ 0 ∷ 0 ∷ []) pairs text) is (Ok false))
    -- (d) a function from u8 to the empty tuple
    ∷ (type_text (20 ∷ 1 ∷ 0 ∷ 19 ∷ 0 ∷ []) pairs text 0 is Ok (ascii "::std::ops::Fn(u8) -> ()"))
    -- (e) an intersection of a borrow and bool is sound; an intersection that is borrowed has the same text and is unsound
    ∷ (type_text (21 ∷ 15 ∷ 0 ∷ 11 ∷ []) pairs text 0 is Ok (ascii "&u8 + bool"))
    ∷ ((type_is_sound (21 ∷ 15 ∷ 0 ∷ 11 ∷ []) pairs text) is (Ok true))
    ∷ (type_text (15 ∷ 21 ∷ 0 ∷ 11 ∷ []) pairs text 0 is Ok (ascii "&u8 + bool"))
    ∷ ((type_is_sound (15 ∷ 21 ∷ 0 ∷ 11 ∷ []) pairs text) is (Ok false))
    -- (f) a synonym, u8 by display and bool by base: text; `Expand`, the part and where it stands; `IsAutoSize`
    ∷ (type_text (23 ∷ 0 ∷ 11 ∷ []) pairs text 0 is Ok (ascii "u8"))
    ∷ (part_words (23 ∷ 0 ∷ 11 ∷ []) (part_of ExpandAt (23 ∷ 0 ∷ 11 ∷ []) pairs text) is 11 ∷ [])
    ∷ ((part_of ExpandAt (23 ∷ 0 ∷ 11 ∷ []) pairs text) is Ok (record { start = 2; length = 1 }))
    ∷ ((map_answer IsAutoSize (type_of (23 ∷ 0 ∷ 11 ∷ []) pairs text)) is (Ok false))
    -- (g) a borrowed u16, by the rules from u16 to u8 and from &u8 to bool, in a buffer of two words
    ∷ (laid_down (99 ∷ 99 ∷ []) (type_rebuilt (15 ∷ 1 ∷ []) pairs text (2 ∷ 1 ∷ 0 ∷ 15 ∷ 0 ∷ 11 ∷ [])) is (Ok 1, 11 ∷ 99 ∷ []))
    -- (h) the struct above: an empty visit list
    ∷ (declaration_visits example pairs text is Ok [])
    -- (i) a synonym of an Object of an array of u8: a Ptr of an array of MaybeUninit of u8, in a buffer of twenty words
    ∷ (laid_down (replicate 20 99) (type_initialized (23 ∷ 0 ∷ 14 ∷ 1 ∷ 13 ∷ 0 ∷ 2 ∷ 10 ∷ 11 ∷ 22 ∷ 0 ∷ 0 ∷ []) pairs text)
    is (Ok 18, 14 ∷ 1 ∷ 13 ∷ 0 ∷ 2 ∷ 10 ∷ 12 ∷ 22 ∷ 0 ∷ 14 ∷ 1 ∷ 13 ∷ 0 ∷ 3 ∷ 1 ∷ 8 ∷ 9 ∷ 0 ∷ 99 ∷ 99 ∷ []))
    -- (j) docs at level 0, with pairs of their own: four spaces alone; four spaces and x
    ∷ (declaration_text documented (0 ∷ 5 ∷ 5 ∷ 4 ∷ []) (ascii "Gauge    ") 0 is Ok (ascii "///     \npub struct Gauge {}"))
    ∷ (declaration_text documented (0 ∷ 5 ∷ 5 ∷ 5 ∷ []) (ascii "Gauge    x") 0 is Ok (ascii "/// |   x\npub struct Gauge {}"))
    -- (k) a final `rs` stays
    ∷ (declaration_text documented (0 ∷ 5 ∷ 5 ∷ 5 ∷ []) (ascii "Gauge```rs") 0 is Ok (ascii "/// ```rs\npub struct Gauge {}"))
    ∷ []
