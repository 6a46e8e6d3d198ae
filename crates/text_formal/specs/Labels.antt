-- How far a named field was counted, or written.
use Rattle.std.specs.Prelude.{Ok, Err, Result, ℕ, ◌≡◌, true, false, List, []}
use Rattle.rast.specs.Bytes.{Bytes}
use Rattle.encoding.specs.declared.Refusal.{Refusal}
use Rattle.encoding.specs.Reading.{Reading, stop}
use Rattle.accepted_types.specs.declared.Spot.{Spot}
use Rattle.text_type.specs.declared.Part.{Part}
use Rattle.text_type.specs.declared.Part.TheVariants.{Rest, Done}
use Rattle.text_pass.specs.Passes.{Came, Along}
use Rattle.text_formal.specs.declared.Label.{Label}
use Rattle.text_formal.specs.declared.Label.TheVariants.{Open, Whole}

-- of the text x all is counted, or what is left is the rest at n; a refusal is met before a byte is counted
pub data Labelled (rest : ℕ → Reading Bytes) (p : ℕ) (x : Reading Bytes) : Result Label Refusal → Type 0 where
  opened : {n p' : ℕ} → Along false [] p x [] p' (rest n) → Labelled rest p x (Ok (Open n p'))
  whole : {n p' : ℕ} → Came false [] p x [] n p' → Labelled rest p x (Ok (Whole n p'))
  unread : {k : Refusal} → x ≡ stop k → Labelled rest p x (Err k)

-- of the text x, which was accepted, all is written, or what is left is the rest where the writer has come to
pub data LabelWritten (rest : ℕ → Reading Bytes) (o : List ℕ) (p : ℕ) (x : Reading Bytes) (o' : List ℕ) : Part → Type 0 where
  front : {s : Spot} → Along true o p x o' s.pos (rest s.next) → LabelWritten rest o p x o' (Rest s)
  all : {s : Spot} → Came true o p x o' s.next s.pos → LabelWritten rest o p x o' (Done s)
