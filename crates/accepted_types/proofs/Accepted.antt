-- An accepted type, by the words that stand there.
use Prim.Native.Nat.{ℕ, ◌+◌, ◌≤◌, ◌<◌}
use mathlib.Core.Path.{◌≡◌, ap, sym, ◌∙◌, subst}
use mathlib.Core.List.{List}
use native.Mathlib.Omega.{arith}
use native.Mathlib.Decide.{dec_lt}
use lib.ListN.{length, get_or}
use Rattle.rast.specs.Bytes.{Bytes}
use Rattle.rast.specs.Tree.{Ty, U8, Primitive, TIdentifier, TypeFromPath}
use Rattle.encoding.specs.declared.Head.{Head}
use Rattle.encoding.specs.declared.Head.TheVariants.{Plain, Name, FromPath, Apply, Ref, RefMut, Impl, Dyn, Tuple, Function, Both, ArrayOf, Synonym, Meta}
use Rattle.encoding.specs.declared.PathAt.{PathAt}
use Rattle.encoding.specs.Tables.{name_bytes, name_count}
use Rattle.encoding.specs.Reading.{got, ◌>>=◌, read_word, read_below, read_names}
use Rattle.encoding.specs.Heads.{read_path, path_head, head_after, read_head}
use Rattle.encoding.specs.HeadWords.{InsidePath}
use Rattle.encoding.specs.Types.{primitives, path_of, read_node, read_type, type_at}
use Rattle.encoding.proofs.Tables.{impossible}
use Rattle.encoding.proofs.Heads.{head_plain, head-other, past-six}
use Rattle.encoding.proofs.Inside.{word-there, below-there, head-begins, head-behind, path-lies, path-end}
use Rattle.encoding.proofs.Reading.{got-value, got-end}
use Rattle.encoding.proofs.Types.{bind-got, node_of, type-lies}
use Rattle.accepted_types.specs.Accepted.{node_at}

module _ (ws pairs : List ℕ) (text : Bytes) (at : ℕ) {t : Ty Bytes} {n : ℕ} (e : type_at ws pairs text at ≡ got t n) where
  record Headed : Type 0 where
    head : Head
    own : ℕ
    reads : head_after (name_count pairs) ws (get_or ws at 0) (at + 1) ≡ got head own
    node : node_at ws pairs text head own ≡ got t n
    here : at < length ws

  headed : Headed
  unfolding read_type
  headed =
      let d = bind-got (read_head (name_count pairs) ws at) _ e in
      record {
        head = d.value;
        own = d.end;
        reads = head-behind (name_count pairs) ws at d.first;
        node = node_of ws pairs text at e d.first;
        here = head-begins (name_count pairs) ws at d.first;
      }

  pub type-here : at < length ws
  type-here = headed.here

  pub type-ahead : at < n
  type-ahead = (type-lies ws pairs text at (omega (arith, type-here)) e).starts

  -- a head without own words
  pub by_kind : (h : Head) → head_after (name_count pairs) ws (get_or ws at 0) (at + 1) ≡ got h (at + 1) → node_at ws pairs text h (at + 1) ≡ got t n
  by_kind h k =
      let d = headed in
      let i : h ≡ d.head = cc d.reads in
      let o : at + 1 ≡ d.own = cc d.reads in
      rw (i, o) d.node

  -- a head with one own word that a reader gives as it stands there
  by-own : {v q : ℕ} (f : ℕ → Head) (d : Headed) → got (f v) q ≡ got d.head d.own → v ≡ get_or ws (at + 1) 0 → q ≡ at + 1 + 1
      → node_at ws pairs text (f (get_or ws (at + 1) 0)) (at + 2) ≡ got t n
  by-own f d e same next =
      let i : f (get_or ws (at + 1) 0) ≡ d.head = cc in
      let o : at + 2 ≡ d.own = (let z : at + 2 ≡ at + 1 + 1 = omega arith in cc) in
      rw (i, o) d.node

  pub by_word : (f : ℕ → Head) → head_after (name_count pairs) ws (get_or ws at 0) (at + 1) ≡ (read_word ws (at + 1) >>= λ v q. got (f v) q)
      → (at + 1 < length ws) × (node_at ws pairs text (f (get_or ws (at + 1) 0)) (at + 2) ≡ got t n)
  by_word f k =
      let r = bind-got (read_word ws (at + 1)) _ (sym k ∙ headed.reads) in
      let w = word-there ws (at + 1) r.first in
      (w.here, by-own f headed r.rest w.same w.next)

  -- and one that is below a bound
  pub by-below : (b : ℕ) (f : ℕ → Head) → head_after (name_count pairs) ws (get_or ws at 0) (at + 1) ≡ (read_below b ws (at + 1) >>= λ v q. got (f v) q)
      → (at + 1 < length ws) × (get_or ws (at + 1) 0 < b) × (node_at ws pairs text (f (get_or ws (at + 1) 0)) (at + 2) ≡ got t n)
  by-below b f k =
      let r = bind-got (read_below b ws (at + 1)) _ (sym k ∙ headed.reads) in
      let w = below-there b ws (at + 1) r.first in
      (w.here, rw w.same at w.below, by-own f headed r.rest w.same w.next)

  pub plain_type : get_or ws at 0 < 12 → (t ≡ Primitive (get_or primitives (get_or ws at 0) U8)) × (n ≡ at + 1)
  unfolding read_node
  plain_type h =
      let k = by_kind (Plain (get_or ws at 0)) (head_plain (name_count pairs) ws (get_or ws at 0) (at + 1) h) in
      (cc, cc)

  pub record NameThere : Type 0 where
    pub inside : at + 1 < length ws
    pub below : get_or ws (at + 1) 0 < name_count pairs
    pub type : t ≡ TIdentifier (name_bytes pairs text (get_or ws (at + 1) 0))
    pub end : n ≡ at + 2

  pub name-type : get_or ws at 0 ≡ 12 → NameThere
  unfolding head_after read_node
  name-type h =
      let k = by-below (name_count pairs) Name (rw h) in
      let m = k.2 in
      record { inside = k.0; below = k.1; type = cc; end = cc }

  abbrev pub path-there : PathAt
  path-there = record { root = get_or ws (at + 1) 0; start = at + 3; count = get_or ws (at + 2) 0 }

  pub record PathThere : Type 0 where
    pub inside : at + 2 < length ws
    pub own : InsidePath (name_count pairs) ws path-there
    pub type : t ≡ TypeFromPath (path_of ws (name_bytes pairs text) path-there)
    pub end : n ≡ at + 3 + get_or ws (at + 2) 0

  pub path-type : get_or ws at 0 ≡ 13 → PathThere
  unfolding head_after path_head read_path read_node
  path-type h =
      let d = headed in
      let x = bind-got (read_path (name_count pairs) ws (at + 1)) _ (rw h at d.reads) in
      let r = bind-got (read_below 3 ws (at + 1)) _ x.first in
      let k = bind-got (read_word ws r.end) _ r.rest in
      let u = bind-got (read_names (name_count pairs) ws k.value k.end) _ k.rest in
      let w₁ = below-there 3 ws (at + 1) r.first in
      let w₂ = word-there ws r.end k.first in
      let e₁ : r.end ≡ at + 2 = (let z : at + 1 + 1 ≡ at + 2 = omega arith in cc w₁.next) in
      let e₂ : k.end ≡ at + 3 = (let z : at + 2 + 1 ≡ at + 3 = omega arith in cc w₂.next) in
      let e₃ : k.value ≡ get_or ws (at + 2) 0 = cc w₂.same in
      let path : x.value ≡ path-there = cc (u.rest, w₁.same) in
      let lies = path-lies (name_count pairs) ws (at + 1) x.first in
      let ends = path-end (name_count pairs) ws (at + 1) x.first in
      let i : FromPath x.value ≡ d.head = cc x.rest in
      let o : x.end ≡ d.own = cc x.rest in
      let m = subst (λ (k : Head). node_at ws pairs text k d.own ≡ got t n) (sym i) d.node in
      record {
        inside = rw e₁ at w₂.here;
        own = subst (InsidePath (name_count pairs) ws) path lies.own;
        type = sym (got-value m) ∙ ap (λ (p : PathAt). TypeFromPath (path_of ws (name_bytes pairs text) p)) path;
        end = sym (got-end m) ∙ sym o ∙ ends ∙ ap (λ (p : PathAt). p.start + p.count) path;
      }

  -- ---- the kinds that hold other types

  pub ref-head : get_or ws at 0 ≡ 15 → node_at ws pairs text Ref (at + 1) ≡ got t n
  unfolding head_after
  ref-head k = by_kind Ref (rw k)

  pub mut-head : get_or ws at 0 ≡ 16 → node_at ws pairs text RefMut (at + 1) ≡ got t n
  unfolding head_after
  mut-head k = by_kind RefMut (rw k)

  pub impl-head : get_or ws at 0 ≡ 17 → node_at ws pairs text Impl (at + 1) ≡ got t n
  unfolding head_after
  impl-head k = by_kind Impl (rw k)

  pub dyn-head : get_or ws at 0 ≡ 18 → node_at ws pairs text Dyn (at + 1) ≡ got t n
  unfolding head_after
  dyn-head k = by_kind Dyn (rw k)

  pub both-head : get_or ws at 0 ≡ 21 → node_at ws pairs text Both (at + 1) ≡ got t n
  unfolding head_after
  both-head k = by_kind Both (rw k)

  pub synonym-head : get_or ws at 0 ≡ 23 → node_at ws pairs text Synonym (at + 1) ≡ got t n
  unfolding head_after
  synonym-head k = by_kind Synonym (rw k)

  pub apply-head : get_or ws at 0 ≡ 14 → (at + 1 < length ws) × (node_at ws pairs text (Apply (get_or ws (at + 1) 0)) (at + 2) ≡ got t n)
  unfolding head_after
  apply-head k = by_word Apply (rw k)

  pub tuple-head : get_or ws at 0 ≡ 19 → (at + 1 < length ws) × (node_at ws pairs text (Tuple (get_or ws (at + 1) 0)) (at + 2) ≡ got t n)
  unfolding head_after
  tuple-head k = by_word Tuple (rw k)

  pub function-head : get_or ws at 0 ≡ 20 → (at + 1 < length ws) × (node_at ws pairs text (Function (get_or ws (at + 1) 0)) (at + 2) ≡ got t n)
  unfolding head_after
  function-head k = by_word Function (rw k)

  pub array_head : get_or ws at 0 ≡ 22 → (at + 1 < length ws) × (get_or ws (at + 1) 0 < name_count pairs + 1) × (node_at ws pairs text (ArrayOf (get_or ws (at + 1) 0)) (at + 2) ≡ got t n)
  unfolding head_after
  array_head k = by-below (name_count pairs + 1) ArrayOf (rw k)

  meta-kind : get_or ws at 0 ≡ 24 → (at + 1 < length ws) × (get_or ws (at + 1) 0 < 4) × (node_at ws pairs text (Meta (get_or ws (at + 1) 0)) (at + 2) ≡ got t n)
  unfolding head_after
  meta-kind k = by-below 4 Meta (rw k)

  -- no kind is past the last
  kind-known : get_or ws at 0 ≤ 24
  kind-known = go (dec_lt 24 (get_or ws at 0))
    where
      go : Dec (24 < get_or ws at 0) → get_or ws at 0 ≤ 24
      go (yes h) = let o = head-other (name_count pairs) ws (get_or ws at 0) (at + 1) h in let d = headed.reads in impossible (cc)
      go (no h) = omega arith

  -- the kind that is left when all others are told apart
  pub meta-head : 14 ≤ get_or ws at 0 → (get_or ws at 0 ≡ 14 → ⊥) → (get_or ws at 0 ≡ 15 → ⊥) → (get_or ws at 0 ≡ 16 → ⊥) → (get_or ws at 0 ≡ 17 → ⊥) → (get_or ws at 0 ≡ 18 → ⊥)
      → (get_or ws at 0 ≡ 19 → ⊥) → (get_or ws at 0 ≡ 20 → ⊥) → (get_or ws at 0 ≡ 21 → ⊥) → (get_or ws at 0 ≡ 22 → ⊥) → (get_or ws at 0 ≡ 23 → ⊥)
      → (at + 1 < length ws) × (get_or ws (at + 1) 0 < 4) × (node_at ws pairs text (Meta (get_or ws (at + 1) 0)) (at + 2) ≡ got t n)
  meta-head h h₀ h₁ h₂ h₃ h₄ h₅ h₆ h₇ h₈ h₉ = meta-kind (last (get_or ws at 0) (past-six (get_or ws at 0) 14 h h₀ h₁ h₂ h₃ h₄ h₅) h₆ h₇ h₈ h₉ kind-known)
    where
      last : (w : ℕ) → 14 + 6 ≤ w → (w ≡ 20 → ⊥) → (w ≡ 21 → ⊥) → (w ≡ 22 → ⊥) → (w ≡ 23 → ⊥) → w ≤ 24 → w ≡ 24
      last w h a b c d k = omega arith
