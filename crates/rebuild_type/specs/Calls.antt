-- What the calls that rebuild give: the answer, and what the buffer holds afterwards.
use Rattle.encoding.specs.declared.Refusal.{Refusal}
use Rattle.std.specs.Prelude.{Ok, Err, Result, ℕ, min, List, ◌++◌, ltb, length, drop, replicate}
use Rattle.rast.specs.Bytes.{Bytes}
use Rattle.rast.specs.Tree.{Ty}
use Rattle.encoding.specs.Words.{max_words, max_depth}
use Rattle.encoding.specs.declared.Refusal.TheVariants.{TooDeep, BufferTooShort}
use Rattle.encoding.specs.Refusals.{pick, Answer, unless}
use Rattle.encoding.specs.Reading.{whole}
use Rattle.tree_words.specs.Encode.{encode}
use Rattle.tree_words.specs.Numbered.{tree_at}
use Rattle.rebuild_spec.specs.Replace.{Replace}
use Rattle.rebuild_spec.specs.Laying.{depth, peak}
use Rattle.rebuild_spec.specs.Rules.{Rule, check_all, rules_of, mapping_of}

-- a rebuilt tree: its words, the most words that lay there while they were laid down, and its depth
pub record RebuiltWords : Type 0 where
  pub words : List ℕ
  pub top : ℕ
  pub deep : ℕ

-- as many words as may lie in a buffer
abbrev pub room_of : List ℕ → ℕ
room_of o = min (length o) max_words

abbrev pub zeros : List ℕ → List ℕ
zeros o = replicate (length o) 0

-- Document 01: 8 exactly when at some moment more words would lie there than the buffer or 8,192, otherwise 5 when the finished tree is deeper than 64; after either the
-- buffer is all zero. A result fills the front of the buffer, and every other refusal leaves it as it was.
unfoldable pub laid_down : List ℕ → Answer RebuiltWords → Result ℕ Refusal × List ℕ
laid_down o (Ok b) =
    pick (ltb (room_of o) b.top) (Err BufferTooShort, zeros o)
    (pick (ltb max_depth b.deep) (Err TooDeep, zeros o)
    (Ok (length b.words), b.words ++ drop (length b.words) o))
laid_down o (Err r) = (Err r, o)

-- a tree rebuilt by a mapping
abbrev pub laid_type : (Ty ℕ → Ty ℕ) → Ty ℕ → RebuiltWords
laid_type m t = record { words = encode (Replace m t); top = peak m t; deep = depth (Replace m t) }

-- a tree and rules, or the refusal that comes first
unfoldable pub ruled_by : {A : Type 0} → (List Rule → A → RebuiltWords) → Answer A → Answer (List Rule) → Answer RebuiltWords
ruled_by f (Ok a) (Ok rs) = Ok (f rs a)
ruled_by f (Ok a) (Err r) = Err r
ruled_by f (Err r) x = Err r

-- the type that an encoding holds, rebuilt by the rules of a list
unfoldable pub type_rebuilt : List ℕ → List ℕ → Bytes → List ℕ → Answer RebuiltWords
type_rebuilt words pairs text rules =
    unless (check_all words rules pairs text)
    (ruled_by (λ rs. laid_type (mapping_of pairs text rs)) (whole (length words) (tree_at words pairs 0)) (rules_of rules pairs text))
