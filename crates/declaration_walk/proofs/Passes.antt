-- From a walk's answers to the readings behind them.
use Rattle.std.specs.Prelude.{Ok, Err, Result}
use Prim.Native.Nat.{ℕ, ◌≤◌}
use mathlib.Core.Path.{◌≡◌, refl, ap, sym, ◌∙◌, subst}
use mathlib.Core.List.{List}
use native.Mathlib.Omega.{arith}
use lib.ListN.{length, length-map}
use Rattle.rast.specs.Bytes.{Bytes}
use Rattle.encoding.specs.declared.Refusal.{Refusal}
use Rattle.encoding.specs.Reading.{Reading, got, stop, ◌>>=◌}
use Rattle.encoding.specs.Scans.{ended, map_reading}
use Rattle.encoding.specs.Tables.{name_bytes, name_count}
use Rattle.encoding.specs.Types.{type_at}
use Rattle.encoding.specs.Declarations.{declaration_at}
use Rattle.encoding.proofs.Tables.{impossible}
use Rattle.tree_words.specs.Encode.{token_word}
use Rattle.declaration_walk.specs.declared.Walk.{Walk}
use Rattle.declaration_walk.specs.declared.Next.{Next}
use Rattle.declaration_walk.specs.Pieces.{pieces}
use Rattle.declaration_walk.specs.Walks.{Stepped, Opening, opened, read_opening, started}
use Rattle.declaration_walk.proofs.Scans.{ended-map}
use Rattle.declaration_walk.proofs.Openings.{declaration-pieces}
use Rattle.declaration_walk.proofs.OpeningRuns.{opening-run}
use Rattle.encoding.specs.Forms.{present}

pub bind-at : {A B : Type 0} (x : Reading A) (f : A → ℕ → Reading B) {a : A} {n : ℕ} → x ≡ got a n → (x >>= f) ≡ f a n
bind-at x f e = ap (λ y. y >>= f) e

pub bind-none : {A B : Type 0} (x : Reading A) (f : A → ℕ → Reading B) {r : Refusal} → x ≡ stop r → (x >>= f) ≡ stop r
bind-none x f e = ap (λ y. y >>= f) e

-- the step that an answer says
pub stepped : (ws pairs : List ℕ) {bound : ℕ} {w : Walk} {r s : Result Next Refusal} → bound ≡ name_count pairs → r ≡ s → Stepped bound ws w r → Stepped (name_count pairs) ws w s
stepped ws pairs {bound} {w} {r} {s} e d k = subst (λ (b : ℕ). Stepped b ws w s) e (subst (Stepped bound ws w) d k)

module _ (ws pairs : List ℕ) (text : Bytes) where
  pub record BegunAt (w : Walk) : Type 0 where
    pub opening : Opening
    pub end : ℕ
    pub reads : read_opening present (name_count pairs) ws 0 ≡ got opening end
    pub walk : w ≡ opened opening end
    pub inside : w.place ≤ length ws

  pub begun : {r : Result Walk Refusal} {w : Walk} → r ≡ started (read_opening present (name_count pairs) ws 0) → r ≡ Ok w → BegunAt w
  begun {r} {w} e d = go (read_opening present (name_count pairs) ws 0) refl e
    where
      go : (x : Reading Opening) → read_opening present (name_count pairs) ws 0 ≡ x → r ≡ started x → BegunAt w
      go (got o n) h k =
          let z : w ≡ opened o n = cc in
          let s = opening-run ws (name_count pairs) 0 o n h in
          record { opening = o; end = n; reads = h; walk = z; inside = omega (arith, s.0.ends, s.1, length-map o.tokens token_word, ap Walk.place z) }
      go (stop i) h k = impossible (cc)

  pub not-begun : {r : Result Walk Refusal} {k : Refusal} → r ≡ started (read_opening present (name_count pairs) ws 0) → r ≡ Err k → Err k ≡ ended (declaration_at ws pairs text 0)
  unfolding map_reading
  not-begun {r} {k} e d = go (read_opening present (name_count pairs) ws 0) refl e
    where
      go : (x : Reading Opening) → read_opening present (name_count pairs) ws 0 ≡ x → r ≡ started x → Err k ≡ ended (declaration_at ws pairs text 0)
      go (got o n) h j = impossible (cc)
      go (stop i) h j =
          let z : k ≡ i = cc in
          ap Err z
          ∙ sym (sym (ended-map (pieces present) (declaration_at ws pairs text 0)) ∙ ap ended (declaration-pieces (name_count pairs) ws (name_bytes pairs text) (type_at ws pairs text) 0 ∙ bind-none (read_opening present (name_count pairs) ws 0) _ h))
