-- What a text call gives behind the tests, and what its answer says of the text and the buffer.
use Rattle.std.specs.Prelude.{Ok, Err, Result}
use Prim.Native.Nat.{ℕ, ◌≤◌, ◌<◌}
use mathlib.Core.Path.{◌≡◌, refl, sym, ◌∙◌, fst_path, snd_path}
use mathlib.Core.Bool.{Bool, true, false}
use mathlib.Core.List.{List, ◌++◌}
use native.Mathlib.Omega.{arith}
use borrow.Author.Tests.{leb-true, leb-false}
use lib.Dec.{leb}
use lib.ListN.{length, drop, length-append}
use Rattle.rast.specs.Bytes.{Bytes}
use Rattle.encoding.specs.declared.Refusal.{Refusal}
use Rattle.encoding.specs.declared.Refusal.TheVariants.{BufferTooShort}
use Rattle.encoding.specs.Refusals.{pick, Answer, map_answer, unless}
use Rattle.encoding.specs.Tables.{check_level, check_tables}
use Rattle.encoding.specs.Tested.{Good, check_call}
use Rattle.encoding.specs.Filled.{filled}
use Rattle.encoding.proofs.Answers.{call-filled, call-passed, call-refused, map-unless}
use Rattle.encoding.proofs.Tables.{impossible, tables-hold}

-- ---- what is tested before anything is printed, from the code's answer

module _ (ws pairs : List ℕ) (text : Bytes) (level : ℕ) {s : Result (Unit {0}) Refusal} (e : s ≡ check_call ws pairs text level) where
  pub level-tested : s ≡ Ok tt → check_level level ≡ Ok tt
  level-tested d = (call-passed ws pairs text level (sym e ∙ d)).0

  pub tables-tested : s ≡ Ok tt → Good pairs text × (length ws ≤ 8192)
  tables-tested d = tables-hold ws pairs text refl (call-passed ws pairs text level (sym e ∙ d)).1

  -- the call's answer, where its text is f of x behind the tests
  module _ {A : Type 0} (o : List ℕ) (f : A → Bytes) (x : Answer A) where
    pub text-filled : {p : Result ℕ Refusal × List ℕ} → s ≡ Ok tt → p ≡ filled o (map_answer f x) → p ≡ filled o (unless (check_level level) (map_answer f (unless (check_tables ws pairs text) x)))
    text-filled d h = rw map-unless (call-filled o ws pairs text level (map_answer f x) (sym e ∙ d) h)

    pub text-refused : {k : Refusal} → s ≡ Err k → ◌≡◌ {A = Result ℕ Refusal × List ℕ} (Err k, o) (filled o (unless (check_level level) (map_answer f (unless (check_tables ws pairs text) x))))
    text-refused d = rw map-unless (call-refused o ws pairs text level (map_answer f x) (sym e ∙ d))

-- ---- from the answer back to the text

-- a length: the text fills the front of the buffer
pub record Filled (o : List ℕ) (a : Answer Bytes) (n : ℕ) (o' : List ℕ) : Type 0 where
  pub bytes : Bytes
  pub gives : a ≡ Ok bytes
  pub size : n ≡ length bytes
  pub room : length bytes ≤ length o
  pub front : o' ≡ bytes ++ drop (length bytes) o

-- a refusal: there is no text, or no room for it
pub data Unfilled (o : List ℕ) (a : Answer Bytes) (k : Refusal) : Type 0 where
  no_text : a ≡ Err k → Unfilled o a k
  no_room : (bytes : Bytes) → a ≡ Ok bytes → length o < length bytes → k ≡ BufferTooShort → Unfilled o a k

module _ (o o' : List ℕ) {r : Result ℕ Refusal} where
  pub length-filled : (a : Answer Bytes) {n : ℕ} → ◌≡◌ {A = Result ℕ Refusal × List ℕ} (r, o') (filled o a) → r ≡ Ok n → Filled o a n o'
  unfolding filled
  length-filled (Ok b) {n} e d = go (leb (length b) (length o)) refl e
    where
      go : (fits : Bool) → leb (length b) (length o) ≡ fits
          → ◌≡◌ {A = Result ℕ Refusal × List ℕ} (r, o') (pick fits (Ok (length b), b ++ drop (length b) o) (Err BufferTooShort, o)) → Filled o (Ok b) n o'
      go true t e = let i = fst_path e in record { bytes = b; gives = refl; size = cc; room = leb-true (length b) (length o) t; front = snd_path e }
      go false t e = let i = fst_path e in impossible (cc)
  length-filled (Err k) e d = let i = fst_path e in impossible (cc)

  pub refusal-unfilled : (a : Answer Bytes) {k : Refusal} → ◌≡◌ {A = Result ℕ Refusal × List ℕ} (r, o') (filled o a) → r ≡ Err k → Unfilled o a k × (o' ≡ o)
  unfolding filled
  refusal-unfilled (Ok b) {k} e d = go (leb (length b) (length o)) refl e
    where
      go : (fits : Bool) → leb (length b) (length o) ≡ fits
          → ◌≡◌ {A = Result ℕ Refusal × List ℕ} (r, o') (pick fits (Ok (length b), b ++ drop (length b) o) (Err BufferTooShort, o)) → Unfilled o (Ok b) k × (o' ≡ o)
      go true t e = let i = fst_path e in impossible (cc)
      go false t e = let i = fst_path e in (no_room b refl (leb-false (length b) (length o) t) (cc), snd_path e)
  refusal-unfilled (Err j) e d = let i = fst_path e in (no_text (cc), snd_path e)

  pub within : (a : Answer Bytes) {n : ℕ} → ◌≡◌ {A = Result ℕ Refusal × List ℕ} (r, o') (filled o a) → r ≡ Ok n → n ≤ length o'
  within a e d =
      let f = length-filled a e d in
      rw f.front (simp length-append (omega arith))
