-- Laws of laying a doc's pieces one behind the other.
use Rattle.std.specs.Prelude.{None}
use Prim.Native.Nat.{ℕ, zero, suc, ◌+◌, ◌*◌, ◌≤◌, ◌<◌}
use mathlib.Core.Path.{◌≡◌, refl, ap, sym, ◌∙◌}
use mathlib.Core.Bool.{Bool, true}
use mathlib.Core.List.{List, [], ◌∷◌, ◌++◌, append-nil, append_assoc}
use native.Mathlib.Omega.{arith}
use lib.ListN.{length, drop, drop_of_length-le}
use Rattle.rast.specs.Bytes.{Bytes, ascii}
use Rattle.rast.specs.Indent.{IND, indent}
use Rattle.rast.specs.Doc.{DocStringPrefix, ConvertDocstring, ToDocstringPrefix}
use Rattle.rast.proofs.DocBranches.{at-end}
use Rattle.buffer.specs.Laid.{Laid, Fits, spaces}
use Rattle.buffer.proofs.Passes.{length-spaces, laid-nothing, laid_then, laid_as, fits-as, fits-front, fits-behind}
use Rattle.text_doc.specs.declared.Cursor.{Cursor}
use Rattle.text_doc.specs.declared.Step.{Step}
use Rattle.text_doc.specs.Steps.{marker, piece_text, Splits}

-- an indent is four spaces for each level
spaces-four : (n : ℕ) → spaces n ++ ascii "    " ≡ spaces (suc (suc (suc (suc n))))
unfolding spaces ascii
spaces-four zero = refl
spaces-four (suc n) = ap (λ (x : List ℕ). 32 ∷ x) (spaces-four n)

pub indent-spaces : (level : ℕ) → indent level ≡ spaces (4 * level)
unfolding indent spaces IND ascii
indent-spaces zero = refl
indent-spaces (suc level) =
    let e : 4 * suc level ≡ suc (suc (suc (suc (4 * level)))) = omega arith in
    rw (indent-spaces level, e) (spaces-four (4 * level))

pub indent-length : (level : ℕ) → length (indent level) ≡ 4 * level
indent-length level = rw (indent-spaces level) (length-spaces (4 * level))

pub line-size : (level : ℕ) → length (ascii "\n" ++ indent level) ≡ 1 + 4 * level
unfolding ascii
line-size level = let e = indent-length level in omega (arith, e)

-- what remains of a doc at a place
abbrev pub rest : Bytes → Bytes → Cursor → Bytes
rest ind doc place = ConvertDocstring (drop place.at doc) ind place.started (marker place.fence)

-- from the doc's start on, all before the place is laid
pub record Reached (write : Bool) (ind doc : Bytes) (o : List ℕ) (p : ℕ) (place : Cursor) (o' : List ℕ) (p' : ℕ) : Type 0 where
  pub front : Bytes
  pub parts : ConvertDocstring doc ind true None ≡ front ++ rest ind doc place
  pub laid : Laid write o p front o' p'

pub reached-start : {write : Bool} (ind doc : Bytes) (o : List ℕ) (p : ℕ) → Reached write ind doc o p (record { at = 0; started = true; fence = 0 }) o p
unfolding marker
reached-start ind doc o p = record { front = []; parts = refl; laid = laid-nothing o p }

module _ {write : Bool} {ind doc o o' : Bytes} {p p' : ℕ} {place : Cursor} where
  -- there is room for a step's piece
  pub reached-fits : (step : Step) → Fits write o p (ConvertDocstring doc ind true None) → Reached write ind doc o p place o' p'
      → Splits doc place.at place.started place.fence step → Fits write o' p' (piece_text ind (drop place.at doc) step.piece)
  reached-fits step f r s = fits-front (rest ind doc step.next) (fits-as (s.splits ind) (fits-behind (rest ind doc place) (fits-as r.parts f) r.laid))

  -- with it laid, the next place is reached
  pub reached-more : {o'' : Bytes} {p'' : ℕ} (step : Step) → Reached write ind doc o p place o' p' → Splits doc place.at place.started place.fence step
      → Laid write o' p' (piece_text ind (drop place.at doc) step.piece) o'' p'' → Reached write ind doc o p step.next o'' p''
  reached-more step r s l = record {
    front = r.front ++ piece_text ind (drop place.at doc) step.piece;
    parts = r.parts ∙ ap (λ (x : Bytes). r.front ++ x) (s.splits ind)
        ∙ sym (append_assoc r.front (piece_text ind (drop place.at doc) step.piece) (rest ind doc step.next));
    laid = laid_then r.laid l;
  }

  -- at the doc's end all is laid
  pub reached-all : length doc ≤ place.at → Reached write ind doc o p place o' p' → Laid write o p (ConvertDocstring doc ind true None) o' p'
  reached-all h r =
      let e : rest ind doc place ≡ [] = rw (drop_of_length-le doc h) (at-end ind place.started (marker place.fence)) in
      laid_as (sym (r.parts ∙ rw e (append-nil r.front))) r.laid

-- the parts of a doc comment
pub doc-parts : (doc ind : Bytes) → 0 < length doc → ToDocstringPrefix doc ind ≡ DocStringPrefix ++ (ConvertDocstring doc ind true None ++ (ascii "\n" ++ ind))
unfolding ToDocstringPrefix
doc-parts [] ind h = absurd (let z : ⊥ = omega arith in z)
doc-parts (c ∷ s) ind h = simp append_assoc

pub no-doc : (doc ind : Bytes) → length doc ≡ 0 → ToDocstringPrefix doc ind ≡ []
unfolding ToDocstringPrefix
no-doc [] ind h = refl
no-doc (c ∷ s) ind h = absurd (let z : ⊥ = omega arith in z)
