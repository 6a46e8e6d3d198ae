-- The walk as a pass of `text_measure`: its levels and its start.
use Prim.Native.Nat.{ℕ, zero, suc, ◌+◌, ◌*◌, ◌-◌, ◌/◌, ◌≤◌, ◌<◌}
use mathlib.Core.Path.{◌≡◌, refl, ap, sym, ◌∙◌}
use mathlib.Core.List.{List, [], ◌∷◌}
use native.Mathlib.Omega.{arith}
use native.Mathlib.Nat.{add-zero}
use lib.ListN.{length, get_or, set, replicate}
use Rattle.rast.specs.Bytes.{Bytes}
use Rattle.rast.specs.Tree.{Ty, nil, cons}
use Rattle.encoding.specs.declared.Refusal.TheVariants.{EndsEarly}
use Rattle.encoding.specs.Reading.{Reading, got, stop, ◌>>=◌}
use Rattle.encoding.specs.Tables.{name_bytes, name_count}
use Rattle.encoding.specs.Scans.{ended}
use Rattle.encoding.specs.Types.{read_types, read_type}
use Rattle.encoding.proofs.Heads.{head-end}
use Rattle.text_measure.specs.Levels.{shown_length, levels_at, rest_at, stacked, rest_of}
use Rattle.accept_type.specs.Walks.{pass_of, pass_levels}

-- ---- levels

pub level-at : (levels : List ℕ) (i : ℕ) → get_or (pass_levels levels) i 0 ≡ 2 * (get_or levels i 0 / 2)
level-at [] i = refl
level-at (l ∷ ls) zero = refl
level-at (l ∷ ls) (suc i) = level-at ls i

pub level-set : (levels : List ℕ) (i k : ℕ) → pass_levels (set levels i (2 * k)) ≡ set (pass_levels levels) i (2 * k + 0)
level-set [] i k = refl
level-set (l ∷ ls) zero k = let e : 2 * ((2 * k) / 2) ≡ 2 * k + 0 = omega arith in rw e
level-set (l ∷ ls) (suc i) k = rw (level-set ls i k)

-- nothing is due at the levels of the start
zero-level : (n i : ℕ) → get_or (pass_levels (replicate {A = ℕ} n 0)) i 0 ≡ 0
zero-level zero i = refl
zero-level (suc n) zero = refl
zero-level (suc n) (suc i) = zero-level n i

pub zero-levels : (i : ℕ) → get_or (pass_levels (replicate {A = ℕ} 64 0)) i 0 ≡ 0
zero-levels i = zero-level 64 i

-- ---- the start

-- levels at which nothing is due are left at once
levels-none : (f : ℕ → ℕ → Reading (Ty Bytes)) (levels : List ℕ) → ((i : ℕ) → get_or levels i 0 ≡ 0) → (d i p total : ℕ) → levels_at f d (stacked levels i) p total ≡ got total p
unfolding levels_at stacked read_types shown_length
levels-none f levels z d zero p total = refl
levels-none f levels z d (suc i) p total = rw (z i, add-zero total) (levels-none f levels z (suc d) i p total)

module _ (ws pairs : List ℕ) (text : Bytes) where
  -- what is left at the start is the type
  pub start : (levels : List ℕ) (at inside : ℕ) → ((i : ℕ) → get_or levels i 0 ≡ 0) → {x : Reading ℕ}
      → rest_of ws pairs text levels (pass_of (record { place = at; depth = inside; due = 1 })) ≡ x
      → ended x ≡ ended (read_type (name_count pairs) ws (name_bytes pairs text) (64 - inside) at)
  unfolding rest_of rest_at read_types
  start levels at inside z e = sym (ap ended e) ∙ go (types (64 - inside) at)
    where
      types : ℕ → ℕ → Reading (Ty Bytes)
      types = read_type (name_count pairs) ws (name_bytes pairs text)

      go : (y : Reading (Ty Bytes)) → ended ((y >>= λ t q. got nil q >>= λ ts r. got (cons t ts) r) >>= λ ts q. levels_at types (64 - inside) (stacked levels inside) q (0 + shown_length 0 1 ts)) ≡ ended y
      go (got t n) = ap ended (levels-none types levels z (64 - inside) inside n _)
      go (stop r) = refl

  -- no type begins behind the words
  pub end-early : (inside at : ℕ) → inside < 64 → length ws ≤ at → read_type (name_count pairs) ws (name_bytes pairs text) (64 - inside) at ≡ stop EndsEarly
  unfolding read_type
  end-early inside at h l = let e : 64 - inside ≡ suc (63 - inside) = omega arith in rw (e, head-end (name_count pairs) ws at l)
