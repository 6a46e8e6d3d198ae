-- What is known where a call that rebuilds gave a length: what was laid down, and from what.
use Rattle.encoding.specs.declared.Refusal.{Refusal}
use Rattle.std.specs.Prelude.{Ok, Err, Result}
use Prim.Native.Nat.{ℕ, ◌≤◌}
use mathlib.Core.Path.{◌≡◌, refl, ap, sym, ◌∙◌}
use mathlib.Core.Bool.{Bool, true, false}
use mathlib.Core.List.{List, ◌++◌}
use borrow.Author.Tests.{ltb-false}
use lib.Dec.{ltb}
use lib.ListN.{length, take, drop}
use lib.Seq.{take-append_seam}
use Rattle.encoding.specs.Words.{max_depth}
use Rattle.encoding.specs.declared.Refusal.TheVariants.{TooDeep, BufferTooShort}
use Rattle.encoding.specs.Refusals.{pick, Answer, unless}
use Rattle.encoding.proofs.Tables.{impossible}
use Rattle.rebuild_spec.specs.Rules.{Rule}
use Rattle.rebuild_type.specs.Calls.{RebuiltWords, room_of, zeros, laid_down, ruled_by}

-- ---- a tree and rules

pub record Ruling {A : Type 0} (f : List Rule → A → RebuiltWords) (c : Result (Unit {0}) Refusal) (x : Answer A) (y : Answer (List Rule)) (b : RebuiltWords) : Type 0 where
  pub value : A
  pub list : List Rule
  pub passed : c ≡ Ok tt
  pub held : x ≡ Ok value
  pub listed : y ≡ Ok list
  pub made : b ≡ f list value

pub ruled-given : {A : Type 0} (f : List Rule → A → RebuiltWords) (c : Result (Unit {0}) Refusal) (x : Answer A) (y : Answer (List Rule)) {b : RebuiltWords} → unless c (ruled_by f x y) ≡ Ok b → Ruling f c x y b
unfolding unless ruled_by
ruled-given f (Err r) x y e = impossible (cc)
ruled-given f (Ok tt) (Ok a) (Ok rs) e = record { value = a; list = rs; passed = refl; held = refl; listed = refl; made = cc }
ruled-given f (Ok tt) (Ok a) (Err r) e = impossible (cc)
ruled-given f (Ok tt) (Err r) y e = impossible (cc)

-- ---- what was laid down

-- the words that were written, and that they are within the limits
pub record LaidResult (o : List ℕ) (x : Answer RebuiltWords) (written : List ℕ) : Type 0 where
  pub built : RebuiltWords
  pub gives : x ≡ Ok built
  pub fits : built.top ≤ room_of o
  pub shallow : built.deep ≤ max_depth
  pub words : written ≡ built.words

pub laid-result : (o : List ℕ) (x : Answer RebuiltWords) {n : ℕ} {o' : List ℕ} → laid_down o x ≡ (Ok n, o') → LaidResult o x (take n o')
unfolding laid_down
laid-result o (Err r) {n} {o'} e = let k : Err r ≡ Ok n = ap (λ p. p.0) e in impossible (cc)
laid-result o (Ok b) {n} {o'} e = go (ltb (room_of o) b.top) refl (ltb max_depth b.deep) refl e
  where
    go : (s : Bool) → ltb (room_of o) b.top ≡ s → (d : Bool) → ltb max_depth b.deep ≡ d
        → ◌≡◌ {A = Result ℕ Refusal × List ℕ} (pick s (Err BufferTooShort, zeros o) (pick d (Err TooDeep, zeros o) (Ok (length b.words), b.words ++ drop (length b.words) o))) (Ok n, o')
        → LaidResult o (Ok b) (take n o')
    go true h d k e = let j : Err BufferTooShort ≡ Ok n = ap (λ p. p.0) e in impossible (cc)
    go false h true k e = let j : Err TooDeep ≡ Ok n = ap (λ p. p.0) e in impossible (cc)
    go false h false k e =
        let i : Ok (length b.words) ≡ Ok n = ap (λ p. p.0) e in
        let j : length b.words ≡ n = cc in
        let w : b.words ++ drop (length b.words) o ≡ o' = ap (λ p. p.1) e in
        record {
          built = b;
          gives = refl;
          fits = ltb-false (room_of o) b.top h;
          shallow = ltb-false max_depth b.deep k;
          words = ap (λ l. take n l) (sym w) ∙ ap (λ l. take l (b.words ++ drop (length b.words) o)) (sym j) ∙ take-append_seam b.words (drop (length b.words) o);
        }
