-- Laws of printing: numbers and refusals, and from a call's answer to what the buffer holds.
use Rattle.std.specs.Prelude.{Ok, Err, Result}
use Prim.Native.Nat.{ℕ, ◌+◌, ◌/◌, ◌%◌, ◌≤◌, ◌<◌}
use mathlib.Core.Path.{◌≡◌, ap, sym, ◌∙◌, fst_path, snd_path}
use mathlib.Core.Bool.{Bool, true, false}
use mathlib.Core.List.{List, [], ◌∷◌, ◌++◌, append_assoc}
use native.Mathlib.Omega.{arith}
use native.Mathlib.Numerals.{add-one}
use borrow.Author.Tests.{lt-ltb, le-ltb, le-leb, lt-leb}
use lib.Dec.{ltb}
use lib.ListN.{length, set, take, drop, length-append, take-append-drop}
use lib.Seq.{drop-append-le, length-take-le}
use Rattle.rast.specs.Bytes.{Bytes, ascii}
use Rattle.buffer.specs.Wrote.{Wrote}
use Rattle.buffer.proofs.Laws.{wrote_then, wrote_as, sets-front}
use Rattle.encoding.specs.declared.Refusal.{Refusal}
use Rattle.encoding.specs.declared.Refusal.TheVariants.{Overlong, BadPair, EndsEarly, UnknownWord, TooDeep, LeftOver, NoSuchPart, BufferTooShort, BadFileLength, RepeatedRule, BadLevel}
use Rattle.encoding.specs.Refusals.{pick, number, Answer}
use Rattle.encoding.specs.Filled.{filled}
use Rattle.text_calls.proofs.Calls.{Unfilled, no_text, no_room, length-filled, refusal-unfilled}
use Rattle.file.specs.File.{decimal, refusal_line, printed, at_front}

-- ---- numbers and refusals

pub one-digit : (o : List ℕ) (n pos : ℕ) → n < 10 → Wrote o pos (decimal n) (set o pos (48 + n)) (pos + 1)
unfolding decimal
one-digit o n pos h = record { bytes = rw (lt-ltb n 10 h); next = rw (lt-ltb n 10 h) }

pub two_digits : (o : List ℕ) (n pos : ℕ) → 10 ≤ n → Wrote o pos (decimal n) (set (set o pos (48 + n / 10)) (pos + 1) (48 + n % 10)) (pos + 2)
unfolding decimal
two_digits o n pos h = record { bytes = rw (le-ltb n 10 h, add-one pos); next = rw (le-ltb n 10 h) }

pub number_small : (r : Refusal) → number r < 100
number_small Overlong = omega arith
number_small BadPair = omega arith
number_small EndsEarly = omega arith
number_small UnknownWord = omega arith
number_small TooDeep = omega arith
number_small LeftOver = omega arith
number_small NoSuchPart = omega arith
number_small BufferTooShort = omega arith
number_small BadFileLength = omega arith
number_small RepeatedRule = omega arith
number_small BadLevel = omega arith

pub decimal-short : (n : ℕ) → length (decimal n) ≤ 2
unfolding decimal
decimal-short n = go (ltb n 10)
  where
    go : (small : Bool) → length (pick small ((48 + n) ∷ []) ((48 + n / 10) ∷ (48 + n % 10) ∷ [])) ≤ 2
    go true = omega arith
    go false = omega arith

line-short : (r : Refusal) → length (refusal_line r) ≤ 11
unfolding refusal_line ascii
line-short r =
    let d = decimal-short (number r) in
    simp length-append (omega arith)

pub line-written : {o o₁ o₂ o₃ : List ℕ} {p₁ p₂ p₃ n : ℕ} (r : Refusal) → n ≡ number r
    → Wrote o 0 (ascii "refused ") o₁ p₁ → Wrote o₁ p₁ (decimal n) o₂ p₂ → Wrote o₂ p₂ (ascii "\n") o₃ p₃ → Wrote o 0 (refusal_line r) o₃ p₃
unfolding refusal_line
line-written r e k l m = wrote_then (wrote_then k (wrote_as (ap decimal e) l)) m

-- ---- from a call's answer to what the buffer holds

-- what was written from the start on fills the front
front-written : (o b : List ℕ) {o' : List ℕ} {n : ℕ} → length b ≤ length o → Wrote o 0 b o' n → (n, o') ≡ at_front b o
front-written o b h w =
    let e : 0 + length b ≡ length b = omega arith in
    rw (w.next, w.bytes, sets-front b o h, e)

-- a text in the front of a front
fronts : (o b : List ℕ) (k : ℕ) → length b ≤ k → k ≤ length o → b ++ drop (length b) (take k o) ++ drop k o ≡ b ++ drop (length b) o
fronts o b k h m =
    let l : length (take k o) ≡ k = length-take-le k o m in
    let e = drop-append-le (length b) (take k o) (drop k o) (omega arith) in
    append_assoc b (drop (length b) (take k o)) (drop k o) ∙ ap (λ (x : List ℕ). b ++ x) (sym e ∙ rw (take-append-drop k o))

-- the newline behind a text
newline-written : (o b : List ℕ) {o' : List ℕ} {m : ℕ} → length b < length o → Wrote (b ++ drop (length b) o) (length b) (ascii "\n") o' m
    → (m, o') ≡ at_front (b ++ ascii "\n") o
unfolding ascii
newline-written o b h w =
    let text : Wrote o 0 b (b ++ drop (length b) o) (length b) = record { bytes = sym (sets-front b o (omega arith)); next = omega arith } in
    front-written o (b ++ ascii "\n") (simp length-append (omega arith)) (wrote_then text w)

-- the refusal where there is no text
unfilled-line : (o : List ℕ) (a : Answer Bytes) (k : Refusal) → 65536 ≡ length o → Unfilled o a k → printed a ≡ refusal_line k
unfolding printed
unfilled-line o a k l (no_text e) = rw e
unfilled-line o a k l (no_room b e h r) = rw (e, lt-leb (length b) 65536 (omega arith), r)

module _ (o after : List ℕ) {r : Result ℕ Refusal} (full : 65537 ≡ length o) (a : Answer Bytes) (e : ◌≡◌ {A = Result ℕ Refusal × List ℕ} (r, after) (filled (take 65536 o) a)) {m : ℕ} {o' : List ℕ} where
  pub text-printed : {n : ℕ} → r ≡ Ok n → Wrote (after ++ drop 65536 o) n (ascii "\n") o' m → (m, o') ≡ at_front (printed a) o
  unfolding printed
  text-printed q w =
      let f = length-filled (take 65536 o) after a e q in
      let l = length-take-le 65536 o (omega arith) in
      let k : after ++ drop 65536 o ≡ f.bytes ++ drop (length f.bytes) o = ap (λ (x : List ℕ). x ++ drop 65536 o) f.front ∙ fronts o f.bytes 65536 (omega arith) (omega arith) in
      rw (f.gives, le-leb (length f.bytes) 65536 (omega arith)) (newline-written o f.bytes (omega arith) (rw (f.size, k) at w))

  pub refusal-printed : {k : Refusal} → r ≡ Err k → Wrote (after ++ drop 65536 o) 0 (refusal_line k) o' m → (m, o') ≡ at_front (printed a) o
  refusal-printed {k} q w =
      let u = refusal-unfilled (take 65536 o) after a e q in
      let h = line-short k in
      let s : after ++ drop 65536 o ≡ o = rw u.1 (take-append-drop 65536 o) in
      rw (unfilled-line (take 65536 o) a k (sym (length-take-le 65536 o (omega arith))) u.0) (front-written o (refusal_line k) (omega arith) (rw s at w))

-- what fills a front lies within the buffer
pub front-within : (b o : List ℕ) {o' : List ℕ} {n : ℕ} → (n, o') ≡ at_front b o → n ≤ length o'
front-within b o e =
    let p = fst_path e in
    rw (snd_path e) (simp length-append (omega arith))
