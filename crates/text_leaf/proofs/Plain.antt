-- Plain types of two to four letters, by their first two and their last two.
use Prim.Native.Nat.{ℕ, ◌+◌, ◌-◌}
use mathlib.Core.Path.{◌≡◌, ap, sym, ◌∙◌}
use mathlib.Core.Bool.{Bool, true}
use mathlib.Core.List.{List}
use native.Mathlib.Omega.{arith}
use borrow.Author.Tests.{eqb-true, leb-true}
use lib.Dec.{eqb, leb}
use lib.ListN.{length, get_or, take, drop}
use lib.Seq.{sets, take_all}
use Rattle.rast.specs.Bytes.{Bytes, ascii, same, ◌and◌}
use Rattle.rast.specs.Tree.{U8}
use Rattle.rast.specs.ToString.{Primitive-to_string}
use Rattle.rast.proofs.BytesLaws.{and_left, and_right}
use Rattle.buffer.specs.Wrote.{Wrote}
use Rattle.buffer.proofs.Laws.{ends-meet}
use Rattle.encoding.specs.Types.{primitives}
use Rattle.encoding.proofs.Tables.{same-eq}
use Rattle.text_leaf.specs.Texts.{two_bytes, HasEnds}

-- the same as a test, which is computed for each plain type
unfoldable pub ends_test : Bytes → ℕ → ℕ → ℕ → Bool
ends_test b n first last =
    eqb n (length b) and leb 2 (length b) and leb (length b) 4
    and same (take 2 b) (two_bytes first) and same (take 2 (drop (length b - 2) b)) (two_bytes last)

-- a plain type by the arms of the code
module _ {kind k n a b : ℕ} where
  pub ends_at : kind ≡ k → ends_test (Primitive-to_string (get_or primitives k U8)) n a b ≡ true → {r s t : ℕ} → (r ≡ n) × (s ≡ a) × (t ≡ b)
      → HasEnds (Primitive-to_string (get_or primitives kind U8)) r s t
  unfolding ends_test
  ends_at e h q =
      let x = Primitive-to_string (get_or primitives k U8) in
      let h₄ = and_left _ _ h in
      let h₃ = and_left _ _ h₄ in
      let h₂ = and_left _ _ h₃ in
      rw (e, q.0, q.1, q.2) record {
        size = eqb-true n (length x) (and_left _ _ h₂);
        long = leb-true 2 (length x) (and_right _ _ h₂);
        short = leb-true (length x) 4 (and_right _ _ h₃);
        front = same-eq (take 2 x) (two_bytes a) (and_right _ _ h₄);
        back = same-eq (take 2 (drop (length x - 2) x)) (two_bytes b) (and_right _ _ h);
      }

-- the four letters, written: the middle ones may stand at the same places
pub ends-wrote : (o : List ℕ) (p : ℕ) (t : Bytes) {n a b : ℕ} {o₁ o₂ : List ℕ} → HasEnds t n a b
    → o₁ ≡ sets o p (two_bytes a) → o₂ ≡ sets o₁ (p + (n - 2)) (two_bytes b) → Wrote o p t o₂ (p + n)
ends-wrote o p t {n} {a} {b} {o₁} h f g =
    let m = length t - 2 in
    let i : p + (n - 2) ≡ p + m = ap (λ (k : ℕ). p + (k - 2)) h.size in
    let l₁ : o₁ ≡ sets o p (take 2 t) = f ∙ ap (sets o p) (sym h.front) in
    let z : m ≡ 0 + m = omega arith in
    record {
      bytes =
          g
          ∙ ap (λ (l : List ℕ). sets l (p + (n - 2)) (two_bytes b)) l₁
          ∙ ap (λ (k : ℕ). sets (sets o p (take 2 t)) k (two_bytes b)) i
          ∙ ap (λ (l : List ℕ). sets (sets o p (take 2 t)) (p + m) l) (sym h.back)
          ∙ ap (λ (k : ℕ). sets (sets o p (take 2 t)) (p + m) (take 2 (drop k t))) z
          ∙ ends-meet t o 0 2 (length t) p h.long h.short (omega arith)
          ∙ ap (sets o p) (take_all (length t) t (omega arith));
      next = ap (◌+◌ p) h.size;
    }

-- `usize` has five letters, so it is written whole
pub usize-text : {kind : ℕ} → kind ≡ 10 → Primitive-to_string (get_or primitives kind U8) ≡ ascii "usize"
unfolding primitives Primitive-to_string
usize-text e = rw e
