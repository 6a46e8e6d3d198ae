-- The conversion step by step: for each branch of the source's body, what a step lays and what remains.
use Rattle.std.specs.Prelude.{Option, Some, None}
use Prim.Native.Nat.{ℕ, zero, suc, ◌+◌, ◌≤◌, ◌<◌}
use mathlib.Core.Path.{◌≡◌, refl, ap, sym, ◌∙◌}
use mathlib.Core.Bool.{Bool, true, false}
use mathlib.Core.List.{[], ◌∷◌, ◌++◌}
use native.Mathlib.Omega.{arith}
use borrow.Author.Tests.{lt-ltb, le-leb, lt-leb, ltb-true, eq-eqb, ne_eqb, eqb-true}
use lib.Dec.{eqb, leb, ltb}
use lib.ListN.{length, take, drop, replicate, length-replicate}
use Rattle.rast.specs.Bytes.{Bytes, ascii, ◌and◌, ◌or◌, same, begins}
use Rattle.rast.specs.Doc.{is_empty_text, GatherSimpleQuotes, ConvertDocstring}
use Rattle.rast.proofs.DocBranches.{in-code-space, four-spaces, other-space, inside-line}
use Rattle.rast.proofs.DocBranches.{code-ends-line, code-ends, in_code, too_short, no-fence, unnamed-fence, rust-fence, other-fence}
use Rattle.rast.proofs.BytesLaws.{never}
use Rattle.text_doc.specs.Steps.{run_of, line_length, marker}
use Rattle.text_doc.proofs.Runs.{begins-one, begins-front, begins-run, run_on, run_ends, take-run, gather, line_on, line-ends}

pub marker-none : (n : ℕ) → n ≡ 0 → marker n ≡ None
unfolding marker
marker-none zero h = refl
marker-none (suc n) h = absurd (let z : ⊥ = omega arith in z)

pub marker-some : (n : ℕ) → 0 < n → marker n ≡ Some (replicate n 96)
unfolding marker
marker-some zero h = absurd (let z : ⊥ = omega arith in z)
marker-some (suc n) h = refl

-- the test for four spaces that do not end the doc
four-test : (d : Bytes) → (true and ltb 4 (length d) and same (take 4 d) (ascii "    ")) ≡ (ltb 4 (length d) and leb 4 (run_of 32 d))
unfolding ◌and◌ ascii begins
four-test d = go (ltb 4 (length d)) refl
  where
    go : (t : Bool) → ltb 4 (length d) ≡ t → (ltb 4 (length d) and same (take 4 d) (32 ∷ 32 ∷ 32 ∷ 32 ∷ [])) ≡ (ltb 4 (length d) and leb 4 (run_of 32 d))
    go true e =
        let l : leb 4 (length d) ≡ true = le-leb 4 (length d) (omega (arith, ltb-true 4 (length d) e)) in
        rw e (rw l at (begins-run 32 4 d))
    go false e = rw e

few : (d : Bytes) → (4 < length d → run_of 32 d < 4) → (ltb 4 (length d) and leb 4 (run_of 32 d)) ≡ false
unfolding ◌and◌
few d h = go (ltb 4 (length d)) refl
  where
    go : (t : Bool) → ltb 4 (length d) ≡ t → (ltb 4 (length d) and leb 4 (run_of 32 d)) ≡ false
    go true e = rw e (lt-leb 4 (run_of 32 d) (h (ltb-true 4 (length d) e)))
    go false e = rw e

module _ (ind : Bytes) where
  abbrev C : Bytes → Bool → Option Bytes → Bytes
  C d started m = ConvertDocstring d ind started m

  -- ---- inside a line

  inside : (c : ℕ) (s : Bytes) (m : Option Bytes) → eqb c 10 ≡ false → C (c ∷ s) false m ≡ c ∷ C s false m
  unfolding ascii ◌and◌
  inside c s m h = go (eqb c 32) refl m
    where
      go : (t : Bool) → eqb c 32 ≡ t → (m : Option Bytes) → C (c ∷ s) false m ≡ c ∷ C s false m
      go true e None = other-space ind c s (begins-one 10 c s ∙ h) false (begins-one 32 c s ∙ e) refl ∙ rw (eqb-true c 32 e)
      go true e (Some m) = in-code-space ind c s (begins-one 10 c s ∙ h) false m (begins-one 32 c s ∙ e) ∙ rw (eqb-true c 32 e)
      go false e m = inside-line ind c s (begins-one 10 c s ∙ h) (begins-one 32 c s ∙ e) m

  -- up to the line's end the bytes stay
  pub line : (d : Bytes) (m : Option Bytes) → C d false m ≡ take (line_length d) d ++ C (drop (line_length d) d) false m
  unfolding line_length
  line [] m = refl
  line (c ∷ s) m = go (eqb c 10) refl (line s m)
    where
      go : (t : Bool) → eqb c 10 ≡ t → C s false m ≡ take (line_length s) s ++ C (drop (line_length s) s) false m
          → C (c ∷ s) false m ≡ take (line_length (c ∷ s)) (c ∷ s) ++ C (drop (line_length (c ∷ s)) (c ∷ s)) false m
      go true e ih = rw (line-ends c s e)
      go false e ih = rw (line_on c s e) (inside c s m e ∙ ap (λ (x : Bytes). c ∷ x) ih)

  -- ---- spaces at a line's start

  pub code-spaces : (d m : Bytes) → C d true (Some m) ≡ take (run_of 32 d) d ++ C (drop (run_of 32 d) d) true (Some m)
  unfolding run_of ascii
  code-spaces [] m = refl
  code-spaces (c ∷ s) m = go (eqb c 32) refl (code-spaces s m)
    where
      go : (t : Bool) → eqb c 32 ≡ t → C s true (Some m) ≡ take (run_of 32 s) s ++ C (drop (run_of 32 s) s) true (Some m)
          → C (c ∷ s) true (Some m) ≡ take (run_of 32 (c ∷ s)) (c ∷ s) ++ C (drop (run_of 32 (c ∷ s)) (c ∷ s)) true (Some m)
      go true e ih =
          let p = eqb-true c 32 e in
          let n : begins (ascii "\n") (c ∷ s) ≡ false = begins-one 10 c s ∙ ne_eqb c 10 (λ q. let z : ⊥ = omega arith in z) in
          rw (run_on 32 c s e) (in-code-space ind c s n true m (begins-one 32 c s ∙ e) ∙ rw p (ap (λ (x : Bytes). 32 ∷ x) ih))
      go false e ih = rw (run_ends 32 c s e)

  -- outside code, where there are not four of them or they end the doc
  pub few-spaces : (d : Bytes) → (4 < length d → run_of 32 d < 4) → C d true None ≡ take (run_of 32 d) d ++ C (drop (run_of 32 d) d) true None
  unfolding run_of ascii ◌and◌
  few-spaces [] h = refl
  few-spaces (c ∷ s) h = go (eqb c 32) refl (few-spaces s)
    where
      go : (t : Bool) → eqb c 32 ≡ t → ((4 < length s → run_of 32 s < 4) → C s true None ≡ take (run_of 32 s) s ++ C (drop (run_of 32 s) s) true None)
          → C (c ∷ s) true None ≡ take (run_of 32 (c ∷ s)) (c ∷ s) ++ C (drop (run_of 32 (c ∷ s)) (c ∷ s)) true None
      go true e ih =
          let p = eqb-true c 32 e in
          let n : begins (ascii "\n") (c ∷ s) ≡ false = begins-one 10 c s ∙ ne_eqb c 10 (λ q. let z : ⊥ = omega arith in z) in
          let f : (true and ltb 4 (length (c ∷ s)) and same (take 4 (c ∷ s)) (ascii "    ")) ≡ false = four-test (c ∷ s) ∙ few (c ∷ s) h in
          let i = ih (λ k. let b = h (omega arith) in omega (arith, run_on 32 c s e)) in
          rw (run_on 32 c s e) (other-space ind c s n true (begins-one 32 c s ∙ e) f ∙ rw p (ap (λ (x : Bytes). 32 ∷ x) i))
      go false e ih = rw (run_ends 32 c s e)

  -- ---- a first byte c, at a line's start

  module _ (c : ℕ) (s : Bytes) where
    abbrev d : Bytes
    d = c ∷ s

    pub bar : c ≡ 32 → 4 < length d → 4 ≤ run_of 32 d → C d true None ≡ ascii "|   " ++ C (drop 4 d) false None
    unfolding ascii ◌and◌
    bar p l r =
        let n : begins (ascii "\n") d ≡ false = begins-one 10 c s ∙ ne_eqb c 10 (λ q. let z : ⊥ = omega arith in z) in
        let t : (ltb 4 (length d) and leb 4 (run_of 32 d)) ≡ true = rw (lt-ltb 4 (length d) l) (le-leb 4 (run_of 32 d) r) in
        four-spaces ind c s n true (begins-one 32 c s ∙ eq-eqb c 32 p) (four-test d ∙ t)

    -- the first byte stays, and with it the rest of the line
    pub text-line : (started : Bool) (m : Option Bytes) → (c ≡ 10 → ⊥) → C d started m ≡ c ∷ C s false m
        → C d started m ≡ take (line_length d) d ++ C (drop (line_length d) d) false m
    text-line started m h e = rw (line_on c s (ne_eqb c 10 h)) (e ∙ ap (λ (x : Bytes). c ∷ x) (line s m))

    module _ (no-newline : c ≡ 10 → ⊥) (no-space : c ≡ 32 → ⊥) where
      nl : begins (ascii "\n") d ≡ false
      unfolding ascii
      nl = begins-one 10 c s ∙ ne_eqb c 10 no-newline

      sp : begins (ascii " ") d ≡ false
      unfolding ascii
      sp = begins-one 32 c s ∙ ne_eqb c 32 no-space

      -- three backticks, by the two tests of the source
      three : leb 3 (length d) ≡ true → same (take 3 d) (ascii "```") ≡ leb 3 (run_of 96 d)
      unfolding ascii begins ◌and◌
      three l = rw l at (begins-run 96 3 d)

      pub no-fence-opens : run_of 96 d < 3 → C d true None ≡ c ∷ C s false None
      no-fence-opens h = go (leb 3 (length d)) refl
        where
          go : (t : Bool) → leb 3 (length d) ≡ t → C d true None ≡ c ∷ C s false None
          go true e = no-fence ind c s nl sp e (three e ∙ lt-leb 3 (run_of 96 d) h)
          go false e = too_short ind c s nl sp e

      pub no-fence-closes : (k : ℕ) → run_of 96 d < k → C d true (Some (replicate k 96)) ≡ c ∷ C s false (Some (replicate k 96))
      no-fence-closes k h = in_code ind c s nl sp m (longer (begins (m ++ ascii "\n") d) refl) short
        where
          m : Bytes
          m = replicate k 96

          short : begins m d ≡ false
          short = begins-run 96 k d ∙ lt-leb k (run_of 96 d) h

          longer : (t : Bool) → begins (m ++ ascii "\n") d ≡ t → begins (m ++ ascii "\n") d ≡ false
          longer true e = never (sym (begins-front m (ascii "\n") d e) ∙ short)
          longer false e = e

      pub fence-closes : (k : ℕ) → k ≤ run_of 96 d → C d true (Some (replicate k 96)) ≡ take k d ++ C (drop k d) false None
      fence-closes k h = go (begins (replicate k 96 ++ ascii "\n") d) refl
          ∙ rw (length-replicate {A = ℕ} k 96, take-run 96 k d h)
        where
          go : (t : Bool) → begins (replicate k 96 ++ ascii "\n") d ≡ t
              → C d true (Some (replicate k 96)) ≡ replicate k 96 ++ C (drop (length {A = ℕ} (replicate k 96)) d) false None
          go true e = code-ends-line ind c s nl sp (replicate k 96) e
          go false e = code-ends ind c s nl sp (replicate k 96) e (begins-run 96 k d ∙ le-leb k (run_of 96 d) h)

      -- a fence that opens code, and what is behind it
      module _ (n : ℕ) (size : n ≡ run_of 96 d) (many : 3 ≤ n) (inside : n ≤ length d) where
        quotes : GatherSimpleQuotes d [] ≡ replicate n 96
        quotes = gather d [] ∙ rw (sym size)

        front : take n d ≡ replicate n 96
        front = take-run 96 n d (omega arith)

        count : length (GatherSimpleQuotes d []) ≡ n
        count = rw quotes (length-replicate n 96)

        code : marker n ≡ Some (replicate n 96)
        code = marker-some n (omega arith)

        long : leb 3 (length d) ≡ true
        long = le-leb 3 (length d) (omega arith)

        fence : same (take 3 d) (ascii "```") ≡ true
        fence = three long ∙ le-leb 3 (run_of 96 d) (omega arith)

        abbrev unnamed : Bool
        unnamed = is_empty_text (drop n d) or begins (ascii " ") (drop n d) or begins (ascii "\n") (drop n d)

        abbrev rust : Bool
        rust = leb 3 (length (drop n d)) and same (take 2 (drop n d)) (ascii "rs") and (begins (ascii " ") (drop 2 (drop n d)) or begins (ascii "\n") (drop 2 (drop n d)))

        pub unnamed-opens : unnamed ≡ true → C d true None ≡ take n d ++ ascii "dafny" ++ C (drop n d) false (marker n)
        unnamed-opens e = rw (front, code) (rw (count, quotes) at (unnamed-fence ind c s nl sp long fence (rw count e)))

        pub rust-opens : unnamed ≡ false → rust ≡ true → C d true None ≡ take n d ++ C (drop (n + 2) d) false (marker n)
        rust-opens e k = rw (front, code) (rw (count, quotes) at (rust-fence ind c s nl sp long fence (rw count e) (rw count k)))

        pub other-opens : unnamed ≡ false → rust ≡ false → C d true None ≡ take n d ++ C (drop n d) false (marker n)
        other-opens e k = rw (front, code) (rw (count, quotes) at (other-fence ind c s nl sp long fence (rw count e) (rw count k)))
