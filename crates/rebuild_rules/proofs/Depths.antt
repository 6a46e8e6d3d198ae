-- Laws of the pass that finds how deep some types are.
use Prim.Native.Nat.{ℕ, ◌+◌, ◌-◌, ◌≤◌, ◌<◌, max}
use mathlib.Core.Path.{◌≡◌, ap, sym, ◌∙◌}
use mathlib.Core.List.{List}
use native.Mathlib.Omega.{arith}
use lib.ListN.{length}
use Rattle.rast.specs.Tree.{Ty, Tys, nil, cons}
use Rattle.encoding.specs.Tables.{name_count}
use Rattle.encoding.specs.Reading.{Reading, got}
use Rattle.encoding.specs.HeadWords.{HeadHere, types_below, own_end}
use Rattle.encoding.specs.Types.{read_types}
use Rattle.encoding.proofs.Inside.{head-lies}
use Rattle.tree_words.specs.Numbered.{tree_at}
use Rattle.tree_words.proofs.Nodes.{first-type}
use Rattle.tree_words.proofs.Heads.{tree-below, head-here, tree-words, few-below}
use Rattle.tree_words.proofs.Renaming.{tree-run, encode-words}
use Rattle.accepted_types.specs.Accepted.{Readable}
use Rattle.rebuild_spec.specs.Laying.{depth, deepest}
use Rattle.rebuild_spec.proofs.Nodes.{depth-node, depth-words}
use Rattle.rebuild_rules.specs.declared.Deep.{Deep}
use Rattle.rebuild_rules.specs.Scans.{Deepens}

-- one type is due, and as many behind its head as follow it
pub alone : {d k : ℕ} → d ≡ 1 - 1 + k → d ≡ k
alone e = omega (arith, e)

-- a pass over the types of x: those from `place` on are left, and those before it are `found` deep
pub record Deepening (ws pairs : List ℕ) (x : Reading (Tys ℕ)) (place found left : ℕ) : Type 0 where
  pub types : Tys ℕ
  pub end : ℕ
  pub whole : x ≡ got types end
  pub rest : Tys ℕ
  pub reads : read_types (tree_at ws pairs) left place ≡ got rest end
  pub same : max found (deepest rest) ≡ deepest types
  pub inside : place ≤ length ws
  pub small : found ≤ length ws

module _ (ws pairs : List ℕ) (at n : ℕ) where
  pub deepening-starts : at ≤ length ws → Readable (read_types (tree_at ws pairs) n at) → Deepening ws pairs (read_types (tree_at ws pairs) n at) at 0 n
  deepening-starts h r = record {
    types = r.value;
    end = r.end;
    whole = r.reads;
    rest = r.value;
    reads = r.reads;
    same = omega arith;
    inside = h;
    small = omega arith;
  }

  pub deepening-ends : {place found left : ℕ} → left ≡ 0 → Deepening ws pairs (read_types (tree_at ws pairs) n at) place found left
      → Deepens (read_types (tree_at ws pairs) n at) (length ws) (record { next = place; depth = found })
  unfolding read_types deepest
  deepening-ends {place} {found} {left} z d =
      let e : got nil place ≡ got d.rest d.end = rw z at d.reads in
      let i : nil ≡ d.rest = cc in
      let j : place ≡ d.end = cc in
      let s : max found 0 ≡ deepest d.types = rw (sym i) at d.same in
      record { types = d.types; reads = d.whole ∙ ap (got d.types) (sym j); depth = omega (arith, s); small = d.small }

module _ {ws pairs : List ℕ} {x : Reading (Tys ℕ)} {place found left : ℕ} (h : 0 < left) (d : Deepening ws pairs x place found left) where
  -- the head that is due
  pub head-due : HeadHere ws place
  head-due = head-here ws pairs place (first-type (tree_at ws pairs) left place h d.reads).first

  -- the types below it
  abbrev below-due : Reading (Tys ℕ)
  below-due = read_types (tree_at ws pairs) (types_below ws place) (own_end ws place)

  pub record Inner : Type 0 where
    pub inside : own_end ws place ≤ length ws
    pub few : types_below ws place ≤ length ws
    pub readable : Readable below-due
    pub ahead : place < own_end ws place
    pub small : (r : Deep) → Deepens below-due (length ws) r → r.depth + 1 ≤ length ws
    pub past : (r : Deep) → Deepens below-due (length ws) r → place ≤ r.next
    pub next : (r : Deep) (m : ℕ) → Deepens below-due (length ws) r → m ≡ max found (r.depth + 1) → Deepening ws pairs x r.next m (left - 1)

  pub inner : Inner
  unfolding deepest
  inner =
      let f = first-type (tree_at ws pairs) left place h d.reads in
      let v = tree-words ws pairs place f.first in
      let b = tree-below ws pairs place f.first v.reads in
      let l = head-lies (name_count pairs) ws place v.reads in
      let w = tree-run ws pairs place d.inside f.first in
      let fits : f.middle ≤ length ws = omega (arith, w.1, w.0.ends, encode-words f.type) in
      let below : below-due ≡ got b.types f.middle = rw v.many b.reads in
      let deep : (r : Deep) → Deepens below-due (length ws) r → (r.depth + 1 ≡ depth f.type) × (r.next ≡ f.middle) =
      λ r k. deep-same below-due r k b.types below f.type (depth-node b.node) in
      record {
        inside = l.ends;
        few = few-below ws pairs place f.first;
        readable = record { value = b.types; end = f.middle; reads = below };
        ahead = l.starts;
        small = λ r k. omega (arith, (deep r k).0, depth-words f.type, w.1, w.0.ends, encode-words f.type);
        past = λ r k. omega (arith, (deep r k).1, w.1);
        next = λ r m k g. record {
          types = d.types;
          end = d.end;
          whole = d.whole;
          rest = f.more;
          reads = rw (deep r k).1 f.others;
          same =
              let s : max found (deepest (cons f.type f.more)) ≡ deepest d.types = rw f.made at d.same in
              omega (arith, s, g, (deep r k).0);
          inside = rw (deep r k).1 fits;
          small = omega (arith, g, (deep r k).0, depth-words f.type, w.1, w.0.ends, encode-words f.type, d.small);
        };
      }
    where
      deep-same : (y : Reading (Tys ℕ)) {n m : ℕ} (r : Deep) → Deepens y n r → (ts : Tys ℕ) → y ≡ got ts m → (t : Ty ℕ) → depth t ≡ 1 + deepest ts → (r.depth + 1 ≡ depth t) × (r.next ≡ m)
      deep-same y {m = m} r k ts e t c =
          let i : k.types ≡ ts = (let g = k.reads in cc) in
          let j : r.next ≡ m = (let g = k.reads in cc) in
          (omega (arith, c, k.depth, ap deepest i), j)
