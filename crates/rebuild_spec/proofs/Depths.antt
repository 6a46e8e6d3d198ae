-- A type that was read is not too deep.
use Prim.Native.Nat.{ℕ, zero, suc, ◌-◌, ◌≤◌}
use mathlib.Core.Path.{◌≡◌}
use mathlib.Core.List.{List}
use native.Mathlib.Omega.{arith}
use Rattle.rast.specs.Tree.{Ty, Tys, nil, cons}
use Rattle.encoding.specs.Reading.{Reading, got}
use Rattle.encoding.specs.Tables.{name_count}
use Rattle.encoding.specs.Heads.{read_head}
use Rattle.encoding.specs.HeadWords.{kids}
use Rattle.encoding.specs.Types.{read_types, read_node, read_type}
use Rattle.encoding.proofs.Tables.{impossible}
use Rattle.encoding.proofs.Types.{bind-got}
use Rattle.tree_words.specs.Numbered.{tree_at}
use Rattle.tree_words.proofs.Nodes.{node-below}
use Rattle.rebuild_spec.specs.Laying.{depth, deepest}
use Rattle.rebuild_spec.proofs.Nodes.{first_of, depth-node}

module _ (b : ℕ) (ws : List ℕ) where
  all-within : (again : ℕ → Reading (Ty ℕ)) (most : ℕ) → ((p : ℕ) (t : Ty ℕ) (n : ℕ) → again p ≡ got t n → depth t ≤ most) → (k p : ℕ) (ts : Tys ℕ) (n : ℕ) → read_types again k p ≡ got ts n → deepest ts ≤ most
  unfolding deepest
  all-within again most h k p nil n e = omega arith
  all-within again most h k p (cons t ts) n e =
      let f = first_of again k p e in
      let d = h p t f.middle f.first in
      let ds = all-within again most h (k - 1) f.middle ts n f.others in
      omega (arith, ds, d)

  pub within : (deep at : ℕ) (t : Ty ℕ) (n : ℕ) → read_type b ws (λ x. x) deep at ≡ got t n → depth t ≤ deep
  unfolding read_type
  within zero at t n e = impossible (cc)
  within (suc deep) at t n e =
      let d = bind-got (read_head b ws at) (λ h p. read_node ws (λ x. x) (read_type b ws (λ x. x) deep) h p) e in
      let k = node-below ws (λ x. x) (read_type b ws (λ x. x) deep) d.value d.end d.rest in
      let l = all-within (read_type b ws (λ x. x) deep) deep (within deep) (kids d.value) d.end k.types n k.reads in
      omega (arith, depth-node k.node, l)

pub tree-deep : (ws pairs : List ℕ) (at : ℕ) {t : Ty ℕ} {n : ℕ} → tree_at ws pairs at ≡ got t n → depth t ≤ 64
tree-deep ws pairs at {t} {n} e = within (name_count pairs) ws 64 at t n e
