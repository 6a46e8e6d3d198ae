-- Laws of a loop over the items of a list, with a separator before each but the first.
use Prim.Native.Nat.{ℕ, zero, suc, ◌+◌, ◌-◌, ◌<◌}
use mathlib.Core.Path.{◌≡◌, refl, sym, subst}
use mathlib.Core.Bool.{Bool}
use mathlib.Core.List.{List, []}
use native.Mathlib.Omega.{arith}
use native.Mathlib.Numerals.{sub-one}
use Rattle.rast.specs.Bytes.{Bytes}
use Rattle.buffer.specs.Laid.{Laid, Fits}
use Rattle.encoding.specs.Reading.{Reading, got}
use Rattle.text_pass.specs.Passes.{last, ◌then◌, run, listed, Ready, Came, came, Along}
use Rattle.text_pass.proofs.Passes.{Runs, Turn, along-start, came-bytes, came-nothing, came-to, ready-bytes, ready-first, ready-last, ready-next, ready-runs, went-last, went-runs, went_then}
use Rattle.text_pass.proofs.Splits.{nothing-behind}

-- what follows an item if n more come: nothing, or the separator and these
unfoldable pub behind : (ℕ → Reading Bytes) → Bytes → ℕ → ℕ → Reading Bytes
behind item separator zero p = got [] p
behind item separator (suc n) p = run (got separator p then λ q. last (listed item separator (suc n) q))

module _ (item : ℕ → Reading Bytes) (separator : Bytes) where
  -- a list is an item and what follows it
  item-runs : (n p : ℕ) → 0 < n → Runs (listed item separator n p) (item p then λ q. last (behind item separator (n - 1) q))
  unfolding listed behind run
  item-runs zero p h = absurd (let z : ⊥ = omega arith in z)
  item-runs (suc zero) p h = record { same = sym (nothing-behind (item p)) }
  item-runs (suc (suc n)) p h = record { same = rw (sub-one (suc (suc n))) }

  behind-runs : (n p : ℕ) → 0 < n → Runs (behind item separator n p) (got separator p then λ q. last (listed item separator n q))
  unfolding behind
  behind-runs zero p h = absurd (let z : ⊥ = omega arith in z)
  behind-runs (suc n) p h = record { same = refl }

  behind-none : (n p : ℕ) → n ≡ 0 → behind item separator n p ≡ got [] p
  unfolding behind
  behind-none n p e = rw e

-- how a loop over a list of n items has come so far, before its turn i
pub record Turned (item : ℕ → Reading Bytes) (separator : Bytes) (write : Bool) (o : List ℕ) (p n at : ℕ) (o₁ : List ℕ) (p₁ i place : ℕ) : Type 0 where
  pub first : i ≡ 0 → Along write o p (listed item separator n at) o₁ p₁ (listed item separator n place)
  pub later : 0 < i → Along write o p (listed item separator n at) o₁ p₁ (behind item separator (n - i) place)

module _ {item : ℕ → Reading Bytes} {separator : Bytes} {write : Bool} {o : List ℕ} {p n at : ℕ} where
  pub turned-start : Ready write o p (listed item separator n at) → Turned item separator write o p n at o p 0 at
  turned-start r = record { first = λ e. along-start r; later = λ h. absurd (let z : ⊥ = omega arith in z) }

  module _ {o₁ : List ℕ} {p₁ i place : ℕ} (t : Turned item separator write o p n at o₁ p₁ i place) where
    -- the first item comes at once
    pub turned-first : i ≡ 0 → i < n → Turn item separator write o p n at o₁ p₁ (n - i) place
    turned-first e h =
        let k : n ≡ n - i = omega arith in
        record { some = omega arith; along = subst (λ (m : ℕ). Along write o p (listed item separator n at) o₁ p₁ (listed item separator m place)) k (t.first e) }

    -- each other one behind the separator
    pub turned_gap : 0 < i → i < n → Fits write o₁ p₁ separator
    turned_gap h l = ready-bytes (ready-first (ready-runs (behind-runs item separator (n - i) place (omega arith)) (t.later h).ready))

    pub turned-later : {o₂ : List ℕ} {p₂ : ℕ} → 0 < i → i < n → Laid write o₁ p₁ separator o₂ p₂ → Turn item separator write o p n at o₂ p₂ (n - i) place
    turned-later h l w =
        let a = t.later h in
        let k = behind-runs item separator (n - i) place (omega arith) in
        let c = came-bytes place w in
        record {
          some = omega arith;
          along = record {
            ready = ready-last (ready-next (ready-runs k a.ready) c);
            ends = λ o'' r v. a.ends o'' r (went-runs k (went_then c (went-last v)));
          };
        }

    -- all have come
    pub turned-end : i ≡ n → 0 < n → Came write o p (listed item separator n at) o₁ place p₁
    turned-end e h =
        let a = t.later (omega arith) in
        let b = subst (λ (x : Reading Bytes). Along write o p (listed item separator n at) o₁ p₁ x) (behind-none item separator (n - i) place (omega arith)) a in
        came-to (b.ends o₁ _ (came (came-nothing place))) refl

  -- an item has come
  pub turn-turned : (i : ℕ) {o₂ : List ℕ} {p₂ place : ℕ} {o₃ : List ℕ} {p₃ next : ℕ} → Turn item separator write o p n at o₂ p₂ (n - i) place → Came write o₂ p₂ (item place) o₃ next p₃
      → Turned item separator write o p n at o₃ p₃ (i + 1) next
  turn-turned i {place = place} {o₃ = o₃} {p₃ = p₃} {next = next} t c =
      let a = t.along in
      let k = item-runs item separator (n - i) place t.some in
      let l : n - i - 1 ≡ n - (i + 1) = omega arith in
      record {
        first = λ e. absurd (let z : ⊥ = omega arith in z);
        later = λ h. subst (λ (m : ℕ). Along write o p (listed item separator n at) o₃ p₃ (behind item separator m next)) l (record {
          ready = ready-last (ready-next (ready-runs k a.ready) c);
          ends = λ o'' r v. a.ends o'' r (went-runs k (went_then c (went-last v)));
        });
      }
