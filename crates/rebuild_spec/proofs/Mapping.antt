-- A list of rules is the map of the source's `ReplaceMap`: what an equal from gives way to is not searched again, and a type that equals no from stays.
use Prim.Native.Nat.{ℕ}
use mathlib.Core.Path.{◌≡◌, refl}
use mathlib.Core.Bool.{Bool, true, false}
use mathlib.Core.List.{List, [], ◌∷◌, ◌++◌}
use Rattle.rast.specs.Bytes.{◌or◌}
use Rattle.rast.specs.Tree.{Ty}
use Rattle.encoding.proofs.Tables.{impossible}
use Rattle.rebuild_spec.specs.Replace.{ruled}
use Rattle.rebuild_spec.specs.Rules.{Rule, among_froms}

module _ (eq : Ty ℕ → Ty ℕ → Bool) (t : Ty ℕ) where
  -- a rule behind others whose froms are not equal
  pub to-given : (before : List Rule) (r : Rule) (rs : List Rule) → among_froms eq t before ≡ false → eq t r.0 ≡ true → ruled eq (before ++ (r ∷ rs)) t ≡ r.1
  unfolding ruled among_froms
  to-given [] r rs n e = rw e refl
  to-given (b ∷ bs) r rs n e = go (eq t b.0) n (λ k. to-given bs r rs k e)
    where
      go : (x : Bool) → (x or among_froms eq t bs) ≡ false → (among_froms eq t bs ≡ false → ruled eq (bs ++ (r ∷ rs)) t ≡ r.1) → elim x as (λ y. Ty ℕ) [ true ↦ b.1 | false ↦ ruled eq (bs ++ (r ∷ rs)) t ] ≡ r.1
      go true k h = impossible (cc)
      go false k h = h k

  pub none-given : (rs : List Rule) → among_froms eq t rs ≡ false → ruled eq rs t ≡ t
  unfolding ruled among_froms
  none-given [] n = refl
  none-given (r ∷ rs) n = go (eq t r.0) n (none-given rs)
    where
      go : (x : Bool) → (x or among_froms eq t rs) ≡ false → (among_froms eq t rs ≡ false → ruled eq rs t ≡ t) → elim x as (λ y. Ty ℕ) [ true ↦ r.1 | false ↦ ruled eq rs t ] ≡ t
      go true k h = impossible (cc)
      go false k h = h k
