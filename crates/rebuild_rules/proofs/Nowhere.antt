-- Where no from stands, no type gives way.
use Prim.Native.Nat.{ℕ, zero, suc, ◌+◌, ◌<◌}
use mathlib.Core.Path.{◌≡◌, refl, ap, sym, ◌∙◌}
use mathlib.Core.Bool.{Bool, true, false}
use mathlib.Core.List.{List, [], ◌∷◌}
use native.Mathlib.Omega.{arith}
use native.Mathlib.Decide.{ℕ_discrete}
use lib.ListN.{length, take, drop}
use Rattle.rast.specs.Bytes.{Bytes, ◌or◌}
use Rattle.rast.specs.Tree.{Ty}
use Rattle.encoding.specs.Refusals.{pick}
use Rattle.encoding.proofs.Tables.{impossible}
use Rattle.tree_words.specs.Encode.{encode}
use Rattle.tree_words.specs.Runs.{Run}
use Rattle.tree_words.proofs.Renaming.{encode-words, words-some}
use Rattle.rebuild_spec.specs.Same.{same_by}
use Rattle.rebuild_spec.specs.Replace.{ruled}
use Rattle.rebuild_spec.specs.Rules.{Rule}
use Rattle.same_type.specs.declared.Due.TheVariants.{Kind}
use Rattle.same_type.specs.Runs.{same_runs}
use Rattle.same_type.proofs.Steps.{runs-uneven}
use Rattle.rebuild_rules.specs.Table.{from_words, first_of, stands, some_stands, none_stands, Tabled}
use Rattle.rebuild_rules.proofs.Tables.{found-or, from-same}

neither : (a b : Bool) → (a or b) ≡ false → (a ≡ false) × (b ≡ false)
neither true b e = impossible (cc)
neither false b e = (refl, e)

passed : (a b : Bool) → pick a false b ≡ true → (a ≡ false) × (b ≡ true)
passed true b e = impossible (cc)
passed false b e = (refl, e)

module _ (name : ℕ → Bytes) (rules pairs table : List ℕ) where
  nowhere : (k : ℕ) (ws : List ℕ) (q : ℕ) → q < length ws → none_stands name rules table k ws ≡ true → some_stands name rules table 0 k (drop q ws) ≡ false
  unfolding none_stands
  nowhere k [] q h e = impossible (omega arith)
  nowhere k (w ∷ ws) zero h e = (passed (some_stands name rules table 0 k (w ∷ ws)) (none_stands name rules table k ws) e).0
  nowhere k (w ∷ ws) (suc q) h e = nowhere k ws q (omega arith) (passed (some_stands name rules table 0 k (w ∷ ws)) (none_stands name rules table k ws) e).1

  -- a from that does not stand there is not what stands there
  other : (i : ℕ) (b ws : List ℕ) → take (length b) ws ≡ b → stands name rules table ws i ≡ false → same_runs name Kind b (from_words rules table i) ≡ false
  unfolding stands
  other i b ws s e = go (ℕ_discrete (length b) (length (from_words rules table i)))
    where
      go : Dec (length b ≡ length (from_words rules table i)) → same_runs name Kind b (from_words rules table i) ≡ false
      go (yes l) = ap (λ x. same_runs name Kind x (from_words rules table i)) (sym s ∙ ap (λ n. take n ws) l) ∙ e
      go (no d) = runs-uneven name Kind b (from_words rules table i) d

  stays : (i : ℕ) (t : Ty ℕ) (ws : List ℕ) (rs : List Rule) → Tabled rules pairs table i rs → take (length (encode t)) ws ≡ encode t → some_stands name rules table i (length rs) ws ≡ false → ruled (same_by name) rs t ≡ t
  unfolding ruled some_stands first_of
  stays i t ws [] k s e = refl
  stays i t ws (r ∷ rs) k s e =
      let n = neither (stands name rules table ws i) (some_stands name rules table (i + 1) (length rs) ws) (sym (found-or (stands name rules table ws i) i _) ∙ e) in
      let d : same_by name t r.0 ≡ false = sym (from-same name rules pairs table i t k.0) ∙ other i (encode t) ws s n.0 in
      rw (ruled, d) (stays (i + 1) t ws rs k.1 s n.1)

  pub none-gives-way : (ws : List ℕ) (rs : List Rule) → Tabled rules pairs table 0 rs → none_stands name rules table (length rs) ws ≡ true → (q : ℕ) (t : Ty ℕ) → Run ws q (encode t) → ruled (same_by name) rs t ≡ t
  none-gives-way ws rs k e q t r = stays 0 t (drop q ws) rs k r.words (nowhere (length rs) ws q (omega (arith, r.ends, encode-words t, words-some t)) e)
