-- What is left to a pass: the same before and behind each of its steps.
use Prim.Native.Nat.{ℕ, zero, suc, ◌+◌, ◌*◌, ◌-◌, ◌/◌, ◌%◌, ◌≤◌, ◌<◌}
use mathlib.Core.Path.{◌≡◌, refl, ◌∙◌}
use mathlib.Core.List.{List, [], ◌∷◌}
use native.Mathlib.Omega.{arith}
use native.Mathlib.Nat.{add_assoc, add-zero}
use native.Mathlib.Numerals.{add-one}
use lib.Dec.{eqb}
use lib.ListN.{length, get_or, set}
use lib.Seq.{get_or-set_same, get_or-set_other}
use Rattle.rast.specs.Bytes.{Bytes}
use Rattle.rast.specs.Tree.{Ty, Tys}
use Rattle.encoding.specs.declared.Refusal.{Refusal}
use Rattle.encoding.specs.declared.Refusal.TheVariants.{TooDeep}
use Rattle.encoding.specs.declared.Head.{Head}
use Rattle.encoding.specs.Refusals.{pick}
use Rattle.encoding.specs.Reading.{Reading, got, stop, ◌>>=◌}
use Rattle.encoding.specs.Tables.{name_bytes, name_count}
use Rattle.encoding.specs.Tested.{Good, name_length}
use Rattle.encoding.specs.Heads.{read_head}
use Rattle.encoding.specs.HeadWords.{kids}
use Rattle.encoding.specs.Types.{read_types, read_node, read_type}
use Rattle.encoding.proofs.Inside.{head-lies}
use Rattle.encoding.proofs.Types.{type-advances}
use Rattle.text_measure.specs.Lengths.{own_length, mode_of, CutDown, exact, many}
use Rattle.text_measure.specs.Levels.{shown_length, levels_at, rest_at, stacked}
use Rattle.text_measure.proofs.Texts.{bind_assoc, bind-same, node-length}

-- ---- levels

pub level-due : (k m : ℕ) → (2 * k + m % 2) / 2 ≡ k
level-due k m = omega arith

pub level-mode : (k m : ℕ) → (2 * k + m % 2) % 2 ≡ m % 2
level-mode k m = omega arith

stacked-below : (levels : List ℕ) (i v d : ℕ) → d ≤ i → stacked (set levels i v) d ≡ stacked levels d
unfolding stacked
stacked-below levels i v zero h = refl
stacked-below levels i v (suc d) h = rw (get_or-set_other levels i d v 0 (λ e. omega arith), stacked-below levels i v d (omega arith))

pub stacked-push : (levels : List ℕ) (d v : ℕ) → d < length levels → stacked (set levels d v) (d + 1) ≡ v ∷ stacked levels d
unfolding stacked
stacked-push levels d v h = rw (add-one d, get_or-set_same levels d v 0 h, stacked-below levels d v d (omega arith))

pub stacked-top : (levels : List ℕ) (d : ℕ) → 0 < d → stacked levels d ≡ get_or levels (d - 1) 0 ∷ stacked levels (d - 1)
unfolding stacked
stacked-top levels zero h = absurd (let z : ⊥ = omega arith in z)
stacked-top levels (suc d) h = let e : suc d - 1 ≡ d = omega arith in rw e

-- ---- steps

-- the innermost level has ended
pub rest-above : (f : ℕ → ℕ → Reading (Ty Bytes)) (d m l : ℕ) (ls : List ℕ) (p total : ℕ)
    → rest_at f d m 0 (l ∷ ls) p total ≡ rest_at f (suc d) (l % 2) (l / 2) ls p total
unfolding rest_at read_types levels_at shown_length
rest-above f d m l ls p total = rw (add-zero total)

pub rest_ended : (f : ℕ → ℕ → Reading (Ty Bytes)) (d m p total : ℕ) → rest_at f d m 0 [] p total ≡ got total p
unfolding rest_at read_types levels_at shown_length
rest_ended f d m p total = rw (add-zero total)

-- both numbers of types are refused, for the same reason
record Alike (f : ℕ → Reading (Ty Bytes)) (k n p : ℕ) : Type 0 where
  why : Refusal
  first : read_types f k p ≡ stop why
  second : read_types f n p ≡ stop why

alike-more : (f : ℕ → Reading (Ty Bytes)) (k n p : ℕ) (x : Reading (Ty Bytes)) → f p ≡ x → ((t : Ty Bytes) (q : ℕ) → x ≡ got t q → Alike f k n q) → Alike f (suc k) (suc n) p
unfolding read_types
alike-more f k n p (stop r) e h = record { why = r; first = rw e; second = rw e }
alike-more f k n p (got t q) e h = let i = h t q refl in record { why = i.why; first = rw (e, i.first); second = rw (e, i.second) }

module _ (ws pairs : List ℕ) (text : Bytes) (good : Good pairs text) where
  abbrev pub types : ℕ → ℕ → Reading (Ty Bytes)
  types = read_type (name_count pairs) ws (name_bytes pairs text)

  pub rest-deep : (m k : ℕ) (ls : List ℕ) (p total : ℕ) → rest_at types 0 m (suc k) ls p total ≡ stop TooDeep
  unfolding rest_at read_types read_type
  rest-deep m k ls p total = refl

  pub rest-stop : (d m k : ℕ) (ls : List ℕ) (p total : ℕ) {r : Refusal} → read_head (name_count pairs) ws p ≡ stop r
      → rest_at types (suc d) m (suc k) ls p total ≡ stop r
  unfolding rest_at read_types read_type
  rest-stop d m k ls p total e = rw e

  -- behind a type's head its types are due, one level down
  pub rest-down : (d m k : ℕ) (ls : List ℕ) (p total : ℕ) {h : Head} {q : ℕ} → read_head (name_count pairs) ws p ≡ got h q
      → rest_at types (suc d) m (suc k) ls p total
      ≡ rest_at types d (pick (eqb m 0) 0 (mode_of h)) (kids h) ((2 * k + m % 2) ∷ ls) q (total + pick (eqb m 0) 0 (own_length ws (name_length pairs) h))
  unfolding rest_at read_types read_type levels_at shown_length
  rest-down d m k ls p total {h} {q} e =
      let g : ℕ → ℕ → Reading ℕ = λ n r. read_types (types (suc d)) k r >>= λ ts s. levels_at types (suc d) ls s (total + (n + shown_length (m % 2) k ts)) in
      rw (e, level-due k m, level-mode k m)
      (bind_assoc (read_node ws (name_bytes pairs text) (types d) h q) _ _
      ∙ bind-same (read_node ws (name_bytes pairs text) (types d) h q) _ _ (λ t r i. bind_assoc (read_types (types (suc d)) k r) _ _)
      ∙ node-length ws pairs text good (types d) g (eqb m 0) h q (head-lies (name_count pairs) ws p e).own
      ∙ simp add_assoc)

  -- where more types are due than words are left, it makes no difference how many
  too_many : (d k n p : ℕ) → p ≤ length ws → length ws < p + k → length ws < p + n → Alike (types d) k n p
  too_many d zero n p h a b = absurd (let z : ⊥ = omega arith in z)
  too_many d (suc k) zero p h a b = absurd (let z : ⊥ = omega arith in z)
  too_many d (suc k) (suc n) p h a b =
      alike-more (types d) k n p (types d p) refl λ t q e.
      let l = type-advances (name_count pairs) ws (name_bytes pairs text) d p t q h e in
      too_many d k n q l.1 (omega (arith, l.0)) (omega (arith, l.0))

  -- so a count may be cut down
  pub types-cut : {A : Type 0} (d : ℕ) {k n : ℕ} → CutDown k n → (p : ℕ) (g : Tys Bytes → ℕ → Reading A) → length ws ≤ 8192 → 0 < p → p ≤ length ws
      → (read_types (types d) k p >>= g) ≡ (read_types (types d) n p >>= g)
  types-cut d (exact e) p g f z h = rw e
  types-cut d {k} {n} (many a b) p g f z h = let i = too_many d k n p h (omega arith) (omega arith) in rw (i.first, i.second)

  pub rest-cut : (d m : ℕ) {k n : ℕ} → CutDown k n → (ls : List ℕ) (p total : ℕ) → length ws ≤ 8192 → 0 < p → p ≤ length ws
      → rest_at types d m k ls p total ≡ rest_at types d m n ls p total
  unfolding rest_at
  rest-cut d m (exact e) ls p total f z h = rw e
  rest-cut d m {k} {n} (many a b) ls p total f z h = let i = too_many d k n p h (omega arith) (omega arith) in rw (i.first, i.second)
