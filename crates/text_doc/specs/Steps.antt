-- Converting a doc step by step: what a step lays, and what remains behind it.
use Rattle.std.specs.Prelude.{Option, Some, None, ℕ, zero, suc, ◌+◌, ◌-◌, ◌≤◌, ◌<◌, ◌≡◌, Bool, true, false, [], ◌∷◌, ◌++◌, eqb, length, get_or, take, drop, replicate}
use Rattle.rast.specs.Bytes.{Bytes, ascii}
use Rattle.rast.specs.Doc.{DocStringPrefix, ConvertDocstring}
use Rattle.text_doc.specs.declared.DocPiece.{DocPiece}
use Rattle.text_doc.specs.declared.DocPiece.TheVariants.{Newline, Bar, Unnamed, Copied}
use Rattle.text_doc.specs.declared.Step.{Step}

-- how many bytes x the text begins with
unfoldable pub run_of : ℕ → Bytes → ℕ
run_of x [] = zero
run_of x (c ∷ s) = elim (eqb c x) [ true ↦ suc (run_of x s) | false ↦ zero ]

-- how many bytes stand before the first newline
unfoldable pub line_length : Bytes → ℕ
line_length [] = zero
line_length (c ∷ s) = elim (eqb c 10) [ true ↦ zero | false ↦ suc (line_length s) ]

-- no newline stands from `start` to `end`
pub record Passed (doc : Bytes) (start end : ℕ) : Type 0 where
  pub order : start ≤ end
  pub inside : end ≤ length doc
  pub line : line_length (drop start doc) ≡ end - start + line_length (drop end doc)

-- the first newline among the bytes from `start` to `start + count` is found there, or none (255)
pub record Nearest (doc : Bytes) (start count found : ℕ) : Type 0 where
  pub none : found ≡ 255 → Passed doc start (start + count)
  pub some : found < 255 → (found < count) × Passed doc start (start + found) × (get_or doc (start + found) 0 ≡ 10)
  pub most : found ≤ 255

-- backticks at a line's start are a fence outside code, which opens it, or in code, which it ends; or no fence
pub record Fence (count fence : ℕ) : Type 0 where
  pub opens : fence ≡ 0 → 3 ≤ count
  pub closes : 0 < fence → fence ≤ count

pub record NoFence (count fence : ℕ) : Type 0 where
  pub opens : fence ≡ 0 → count < 3
  pub closes : 0 < fence → count < fence

-- a code marker is a fence's backticks, so its length is all that is kept of it, and 0 is none
unfoldable pub marker : ℕ → Option Bytes
marker zero = None
marker (suc n) = Some (replicate (suc n) 96)

-- from here on the line stays, or a space or a fence at its start does not
pub record Stays (doc : Bytes) (at : ℕ) (started : Bool) (fence : ℕ) : Type 0 where
  pub no-space : started ≡ true → get_or doc at 0 ≡ 32 → ⊥
  pub no-fence : started ≡ true → NoFence (run_of 96 (drop at doc)) fence

pub record Changes (doc : Bytes) (at : ℕ) (started : Bool) (fence : ℕ) : Type 0 where
  pub starts : started ≡ true
  pub quotes : (get_or doc at 0 ≡ 32 → ⊥) → Fence (run_of 96 (drop at doc)) fence

-- how many bytes of the doc a piece takes over
unfoldable pub copied : DocPiece → ℕ
copied Newline = 0
copied Bar = 0
copied (Unnamed count) = count
copied (Copied count) = count

-- what a piece of the text d lays
unfoldable pub piece_text : Bytes → Bytes → DocPiece → Bytes
piece_text ind d Newline = ascii "\n" ++ ind ++ DocStringPrefix
piece_text ind d Bar = ascii "|   "
piece_text ind d (Unnamed count) = take count d ++ ascii "dafny"
piece_text ind d (Copied count) = take count d

-- `count` bytes as they stand, and on from `next`
abbrev pub copy_step : ℕ → ℕ → Bool → ℕ → Step
copy_step count next started fence = record { piece = Copied count; next = record { at = next; started = started; fence = fence } }

-- what remains of the doc is a step's piece, and what then remains; the piece lies in the doc, and the step goes on
pub record Splits (doc : Bytes) (at : ℕ) (started : Bool) (fence : ℕ) (step : Step) : Type 0 where
  pub splits : (ind : Bytes) → ConvertDocstring (drop at doc) ind started (marker fence)
      ≡ piece_text ind (drop at doc) step.piece ++ ConvertDocstring (drop step.next.at doc) ind step.next.started (marker step.next.fence)
  pub inside : at + copied step.piece ≤ length doc
  pub onward : at < step.next.at
