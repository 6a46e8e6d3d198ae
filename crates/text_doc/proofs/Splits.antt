-- The steps at a place of a doc.
use Rattle.std.specs.Prelude.{Option, Some, None}
use Prim.Native.Nat.{ℕ, zero, suc, ◌+◌, ◌≤◌, ◌<◌}
use mathlib.Core.Path.{◌≡◌, refl, ap, sym, ◌∙◌, subst}
use mathlib.Core.Bool.{Bool, true, false}
use mathlib.Core.List.{◌∷◌, ◌++◌}
use native.Mathlib.Omega.{arith}
use native.Mathlib.Numerals.{add-one}
use borrow.Author.Tests.{eq-eqb}
use lib.Dec.{leb}
use lib.ListN.{length, get_or, take, drop, replicate, length-drop}
use lib.Seq.{drop-cons, drop-drop}
use Rattle.rast.specs.Bytes.{Bytes, ascii, ◌and◌, ◌or◌, same, begins}
use Rattle.rast.specs.Doc.{DocStringPrefix, is_empty_text, ConvertDocstring}
use Rattle.rast.proofs.DocBranches.{newline}
use Rattle.text_doc.specs.declared.DocPiece.TheVariants.{Newline, Bar, Unnamed}
use Rattle.text_doc.specs.declared.Step.{Step}
use Rattle.text_doc.specs.Steps.{run_of, line_length, marker, Stays, Changes, copied, piece_text, copy_step, Splits}
use Rattle.text_doc.proofs.Runs.{begins-one, begins-at, run_more, line-more}
use Rattle.text_doc.proofs.Steps.{marker-none, marker-some, line, code-spaces, few-spaces, bar, text-line}
use Rattle.text_doc.proofs.Steps.{no-fence-opens, no-fence-closes, fence-closes, unnamed-opens, rust-opens, other-opens}

-- the same step, said in another way
pub splits-as : {doc : Bytes} {at fence : ℕ} {started : Bool} {step step' : Step} → step ≡ step'
    → Splits doc at started fence step' → Splits doc at started fence step
splits-as {doc} {at} {fence} {started} e s = subst (λ (x : Step). Splits doc at started fence x) (sym e) s

pub changes-start : {doc : Bytes} {at fence : ℕ} {started : Bool} → Changes doc at started fence → Changes doc at true fence
changes-start c = record { starts = refl; quotes = c.quotes }

module _ (doc : Bytes) (at : ℕ) where
  abbrev C : Bytes → Bytes → Bool → Option Bytes → Bytes
  C ind d started m = ConvertDocstring d ind started m

  -- bytes that stay
  copy-splits : (count : ℕ) (started started' : Bool) (fence fence' : ℕ) → at + count ≤ length doc → 0 < count
      → ((ind : Bytes) → C ind (drop at doc) started (marker fence) ≡ take count (drop at doc) ++ C ind (drop count (drop at doc)) started' (marker fence'))
      → Splits doc at started fence (copy_step count (at + count) started' fence')
  unfolding piece_text copied
  copy-splits count started started' fence fence' h k f = record {
    splits = λ ind. rw (sym (drop-drop count at doc)) (f ind);
    inside = h;
    onward = omega arith;
  }

  -- a byte c stands at the place
  module _ (here : at < length doc) where
    abbrev c : ℕ
    c = get_or doc at 0

    abbrev s : Bytes
    s = drop (suc at) doc

    at_head : (P : Bytes → Type 0) → P (c ∷ s) → P (drop at doc)
    at_head P p = subst P (sym (drop-cons doc at 0 here)) p

    pub newline-splits : (started : Bool) (fence : ℕ) → c ≡ 10
        → Splits doc at started fence (record { piece = Newline; next = record { at = at + 1; started = true; fence = fence } })
    unfolding piece_text copied ascii
    newline-splits started fence e = record {
      splits = λ ind. rw (add-one at) (at_head (λ (d : Bytes). C ind d started (marker fence) ≡ ascii "\n" ++ ind ++ DocStringPrefix ++ C ind s true (marker fence))
          (newline ind c s started (marker fence) (begins-one 10 c s ∙ eq-eqb c 10 e)));
      inside = omega arith;
      onward = omega arith;
    }

    -- the rest of a line, of which the first byte stays
    module _ (fence : ℕ) (no-newline : c ≡ 10 → ⊥) (count : ℕ) (size : count ≡ line_length (drop at doc)) (inside : at + count ≤ length doc) where
      some-text : 0 < count
      some-text = omega (arith, line-more doc at here no-newline)

      text-splits : ((ind : Bytes) → C ind (c ∷ s) true (marker fence) ≡ c ∷ C ind s false (marker fence))
          → Splits doc at true fence (copy_step count (at + count) false fence)
      text-splits f =
          copy-splits count true false fence fence inside some-text
          (λ ind. rw size (at_head (λ (d : Bytes). C ind d true (marker fence) ≡ take (line_length d) d ++ C ind (drop (line_length d) d) false (marker fence))
          (text-line ind c s true (marker fence) no-newline (f ind))))

      pub inside-splits : Splits doc at false fence (copy_step count (at + count) false fence)
      inside-splits = copy-splits count false false fence fence inside some-text (λ ind. rw size (line ind (drop at doc) (marker fence)))

      -- no fence opens or closes here
      pub start-splits : (c ≡ 32 → ⊥) → (fence ≡ 0 → run_of 96 (drop at doc) < 3) → (0 < fence → run_of 96 (drop at doc) < fence)
          → Splits doc at true fence (copy_step count (at + count) false fence)
      start-splits no-space opens closes = text-splits (λ ind. go fence refl ind)
        where
          run : run_of 96 (drop at doc) ≡ run_of 96 (c ∷ s)
          run = ap (run_of 96) (drop-cons doc at 0 here)

          go : (n : ℕ) → n ≡ fence → (ind : Bytes) → C ind (c ∷ s) true (marker fence) ≡ c ∷ C ind s false (marker fence)
          go zero e ind = rw (marker-none fence (sym e)) (no-fence-opens ind c s no-newline no-space (omega (arith, run, opens (sym e))))
          go (suc n) e ind = rw (marker-some fence (omega arith)) (no-fence-closes ind c s no-newline no-space fence (omega (arith, run, closes (omega arith))))

      pub stay-splits : (started : Bool) → Stays doc at started fence → Splits doc at started fence (copy_step count (at + count) false fence)
      stay-splits true s = start-splits (s.no-space refl) (s.no-fence refl).opens (s.no-fence refl).closes
      stay-splits false s = inside-splits

    -- ---- spaces

    module _ (space : c ≡ 32) (fence : ℕ) (count : ℕ) (size : count ≡ run_of 32 (drop at doc)) (inside : at + count ≤ length doc) where
      some-space : 0 < count
      some-space = omega (arith, run_more 32 doc at (begins-at doc at 32 here ∙ eq-eqb c 32 space) here)

      pub code-spaces-splits : 0 < fence → Splits doc at true fence (copy_step count (at + count) true fence)
      code-spaces-splits h = copy-splits count true true fence fence inside some-space (λ ind. rw (marker-some fence h, size) (code-spaces ind (drop at doc) (replicate fence 96)))

      pub few-spaces-splits : fence ≡ 0 → (4 + at < length doc → count < 4) → Splits doc at true fence (copy_step count (at + count) true fence)
      few-spaces-splits h k =
          copy-splits count true true fence fence inside some-space
          (λ ind. rw (marker-none fence h, size) (few-spaces ind (drop at doc) (λ l. let m = k (omega (arith, length-drop at doc)) in omega arith)))

      pub bar-splits : fence ≡ 0 → 4 + at < length doc → 4 ≤ count
          → Splits doc at true fence (record { piece = Bar; next = record { at = at + 4; started = false; fence = 0 } })
      unfolding piece_text copied marker
      bar-splits h k l = record {
        splits = λ ind. rw (marker-none fence h, sym (drop-drop 4 at doc))
            (at_head (λ (d : Bytes). 4 < length d → 4 ≤ run_of 32 d → C ind d true None ≡ ascii "|   " ++ C ind (drop 4 d) false None)
            (bar ind c s space) (omega (arith, length-drop at doc)) (omega arith));
        inside = omega arith;
        onward = omega arith;
      }

    -- ---- fences

    module _ (quote : c ≡ 96) where
      no-newline : c ≡ 10 → ⊥
      no-newline e = omega arith

      no-space : c ≡ 32 → ⊥
      no-space e = omega arith

      pub close-splits : (fence : ℕ) → 0 < fence → fence ≤ run_of 96 (drop at doc) → at + fence ≤ length doc
          → Splits doc at true fence (copy_step fence (at + fence) false 0)
      unfolding marker
      close-splits fence h k l =
          copy-splits fence true false fence 0 l h
          (λ ind. rw (marker-some fence h)
          (at_head (λ (d : Bytes). fence ≤ run_of 96 d → C ind d true (Some (replicate fence 96)) ≡ take fence d ++ C ind (drop fence d) false None)
          (fence-closes ind c s no-newline no-space fence) k))

      -- a fence that opens code: what is behind it decides
      module _ (count : ℕ) (size : count ≡ run_of 96 (drop at doc)) (many : 3 ≤ count) (inside : at + count ≤ length doc) where
        abbrev behind : Bytes
        behind = drop (at + count) doc

        abbrev unnamed : Bytes → Bool
        unnamed r = is_empty_text r or begins (ascii " ") r or begins (ascii "\n") r

        abbrev rust : Bytes → Bool
        rust r = leb 3 (length r) and same (take 2 r) (ascii "rs") and (begins (ascii " ") (drop 2 r) or begins (ascii "\n") (drop 2 r))

        fits : count ≤ length (drop at doc)
        fits = omega (arith, length-drop at doc)

        pub unnamed-splits : unnamed behind ≡ true
            → Splits doc at true 0 (record { piece = Unnamed count; next = record { at = at + count; started = false; fence = count } })
        unfolding piece_text copied marker
        unnamed-splits e = record {
          splits = λ ind. rw (sym (drop-drop count at doc))
              (at_head (λ (d : Bytes). count ≡ run_of 96 d → 3 ≤ count → count ≤ length d
              → unnamed (drop count d) ≡ true → C ind d true None ≡ take count d ++ ascii "dafny" ++ C ind (drop count d) false (marker count))
              (unnamed-opens ind c s no-newline no-space count) size many fits (rw (drop-drop count at doc) e));
          inside = inside;
          onward = omega arith;
        }

        pub rust-splits : unnamed behind ≡ false → rust behind ≡ true → Splits doc at true 0 (copy_step count (at + count + 2) false count)
        unfolding piece_text copied marker
        rust-splits e k = record {
          splits = λ ind.
              let p : at + count + 2 ≡ at + (count + 2) = omega arith in
              rw (p, sym (drop-drop (count + 2) at doc))
              (at_head (λ (d : Bytes). count ≡ run_of 96 d → 3 ≤ count → count ≤ length d
              → unnamed (drop count d) ≡ false → rust (drop count d) ≡ true → C ind d true None ≡ take count d ++ C ind (drop (count + 2) d) false (marker count))
              (rust-opens ind c s no-newline no-space count) size many fits (rw (drop-drop count at doc) e) (rw (drop-drop count at doc) k));
          inside = inside;
          onward = omega arith;
        }

        pub other-splits : unnamed behind ≡ false → rust behind ≡ false → Splits doc at true 0 (copy_step count (at + count) false count)
        unfolding marker
        other-splits e k =
            copy-splits count true false 0 count inside (omega arith)
            (λ ind. at_head (λ (d : Bytes). count ≡ run_of 96 d → 3 ≤ count → count ≤ length d
            → unnamed (drop count d) ≡ false → rust (drop count d) ≡ false → C ind d true None ≡ take count d ++ C ind (drop count d) false (marker count))
            (other-opens ind c s no-newline no-space count) size many fits (rw (drop-drop count at doc) e) (rw (drop-drop count at doc) k))
