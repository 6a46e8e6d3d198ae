-- Laws of files: what is lent to the call, the refusals in their order, and files that are longer than a header can describe.
use Rattle.std.specs.Prelude.{Err}
use Prim.Native.Nat.{ℕ, ◌+◌, ◌*◌, ◌≤◌, ◌<◌}
use mathlib.Core.Path.{◌≡◌, refl, ap, sym, ◌∙◌}
use mathlib.Core.Bool.{Bool, true, false}
use mathlib.Core.List.{List, ◌++◌}
use native.Mathlib.Omega.{arith}
use borrow.Author.Tests.{lt-ltb, le-ltb, eq-eqb, ne_eqb, ltb-false, leb-true, leb-false}
use lib.Dec.{leb, ltb, eqb}
use lib.ListN.{length, take, drop, length-drop}
use lib.Seq.{length-take-le, get_or-take, take_all}
use Rattle.rast.specs.Bytes.{Bytes, ◌or◌}
use Rattle.buffer.specs.Wrote.{Wrote}
use Rattle.buffer.proofs.Laws.{wrote-front}
use Rattle.encoding.specs.declared.Refusal.TheVariants.{Overlong, BadFileLength}
use Rattle.encoding.specs.Refusals.{pick}
use Rattle.little_endian.specs.Numbers.{number_at, numbers_at}
use Rattle.little_endian.proofs.Fronts.{front-back}
use Rattle.encoding.specs.Filled.{filled}
use Rattle.text_declaration_call.specs.Calls.{declaration_text}
use Rattle.file.specs.File.{encoded_text, described_text, file_text, printed, printed_file}

-- ---- what is lent to the call

pub numbers-lent : (file d e : List ℕ) (at n : ℕ) → n ≤ length d → length e ≡ length (take n d) → e ≡ numbers_at (length (take n d)) file at
    → take n (e ++ drop n d) ≡ numbers_at n file at
numbers-lent file d e at n h l k = front-back d e n h l ∙ k ∙ rw (length-take-le n d h)

pub text-lent : (file d e : List ℕ) (at n r : ℕ) → n ≤ length d → length e ≡ length (take n d) → length file ≡ at + n
    → Wrote (take n d) 0 (take n (drop at file)) e r → take n (e ++ drop n d) ≡ drop at file
text-lent file d e at n r h l size w =
    let s : length (drop at file) ≡ n = simp length-drop (omega arith) in
    let k : length (take n d) ≡ n = length-take-le n d h in
    let t : take n (drop at file) ≡ drop at file = take_all n (drop at file) (omega arith) in
    let v = rw t at w in
    front-back d e n h l ∙ sym (take_all r e (omega (arith, v.next))) ∙ wrote-front (omega arith) v

pub call-of : {words words' pairs pairs' text text' : List ℕ} → words ≡ words' → pairs ≡ pairs' → text ≡ text'
    → declaration_text words pairs text 0 ≡ declaration_text words' pairs' text' 0
call-of p q r = cc

-- ---- the refusals in their order

pub described : (file : List ℕ) {pairs words size : ℕ} → 12 ≤ length file → pairs ≡ number_at file 0 → words ≡ number_at file 4 → size ≡ number_at file 8 → file_text file ≡ described_text pairs words size file
unfolding file_text
described file h p w t = rw (le-ltb (length file) 12 h, p, w, t)

pub header-short : (file o : List ℕ) → length file < 12 → (Err BadFileLength, o) ≡ filled o (file_text file)
unfolding filled file_text
header-short file o h = rw (lt-ltb (length file) 12 h)

module _ (file : List ℕ) (pairs words size : ℕ) (d : file_text file ≡ described_text pairs words size file) where
  pub pairs-over : (o : List ℕ) → 1024 < pairs → (Err Overlong, o) ≡ filled o (file_text file)
  unfolding filled described_text
  pairs-over o a = rw (d, lt-ltb 1024 pairs a)

  pub words-over : (o : List ℕ) → pairs ≤ 1024 → 8192 < words → (Err Overlong, o) ≡ filled o (file_text file)
  unfolding filled described_text
  words-over o a b = rw (d, le-ltb 1024 pairs a, lt-ltb 8192 words b)

  pub text-over : (o : List ℕ) → pairs ≤ 1024 → words ≤ 8192 → 16384 < size → (Err Overlong, o) ≡ filled o (file_text file)
  unfolding filled described_text
  text-over o a b c = rw (d, le-ltb 1024 pairs a, le-ltb 8192 words b, lt-ltb 16384 size c)

  module _ (a : pairs ≤ 1024) (b : words ≤ 8192) (c : size ≤ 16384) where
    limits-kept : file_text file ≡ pick (eqb (length file) (12 + 8 * pairs + 4 * words + size)) (encoded_text pairs words file) (Err BadFileLength)
    unfolding described_text
    limits-kept = rw (d, le-ltb 1024 pairs a, le-ltb 8192 words b, le-ltb 16384 size c)

    pub length-wrong : (o : List ℕ) → (length file ≡ 12 + 8 * pairs + 4 * words + size → ⊥) → (Err BadFileLength, o) ≡ filled o (file_text file)
    unfolding filled
    length-wrong o n = rw (limits-kept, ne_eqb (length file) (12 + 8 * pairs + 4 * words + size) n)

    pub length-right : length file ≡ 12 + 8 * pairs + 4 * words + size → encoded_text pairs words file ≡ file_text file
    length-right n = rw (limits-kept, eq-eqb (length file) (12 + 8 * pairs + 4 * words + size) n)

-- ---- no header describes more than 57,356 bytes: of a longer file, the first 57,357 say what is printed

-- a refusal that the counts alone decide, once the file is too long for any
too_long : (pairs words size : ℕ) (file : List ℕ) → 57356 < length file
    → described_text pairs words size file ≡ pick (ltb 1024 pairs or ltb 8192 words or ltb 16384 size) (Err Overlong) (Err BadFileLength)
unfolding described_text
too_long pairs words size file h = go (ltb 1024 pairs) (ltb 8192 words) (ltb 16384 size) refl refl refl
  where
    go : (a b c : Bool) → ltb 1024 pairs ≡ a → ltb 8192 words ≡ b → ltb 16384 size ≡ c
        → pick (a or b or c) (Err Overlong) (pick (eqb (length file) (12 + 8 * pairs + 4 * words + size)) (encoded_text pairs words file) (Err BadFileLength))
        ≡ pick (a or b or c) (Err Overlong) (Err BadFileLength)
    go true b c p q r = refl
    go false true c p q r = refl
    go false false true p q r = refl
    go false false false p q r =
        let i = ltb-false 1024 pairs p in
        let j = ltb-false 8192 words q in
        let k = ltb-false 16384 size r in
        rw (ne_eqb (length file) (12 + 8 * pairs + 4 * words + size) (λ e. omega arith))

number-kept : (n : ℕ) (file : List ℕ) (at : ℕ) → at + 4 ≤ n → number_at (take n file) at ≡ number_at file at
number-kept n file at h =
    rw (get_or-take n file at 0 (omega arith), get_or-take n file (at + 1) 0 (omega arith), get_or-take n file (at + 2) 0 (omega arith), get_or-take n file (at + 3) 0 (omega arith))

pub long-file : (file : Bytes) → printed_file (take 57357 file) ≡ printed_file file
unfolding printed_file file_text
long-file file = go (leb (length file) 57357) refl
  where
    go : (short : Bool) → leb (length file) 57357 ≡ short → printed (file_text (take 57357 file)) ≡ printed (file_text file)
    go true e = ap (λ (x : Bytes). printed (file_text x)) (take_all 57357 file (leb-true (length file) 57357 e))
    go false e =
        let h = leb-false (length file) 57357 e in
        let front = take 57357 file in
        let l : length front ≡ 57357 = length-take-le 57357 file (omega arith) in
        let p = number-kept 57357 file 0 (omega arith) in
        let q = number-kept 57357 file 4 (omega arith) in
        let r = number-kept 57357 file 8 (omega arith) in
        ap printed
        (described front (omega arith) (sym p) (sym q) (sym r)
        ∙ too_long (number_at file 0) (number_at file 4) (number_at file 8) front (omega arith)
        ∙ sym (too_long (number_at file 0) (number_at file 4) (number_at file 8) file (omega arith))
        ∙ sym (described file (omega arith) refl refl refl))
