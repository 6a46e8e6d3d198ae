-- Where a mapping leaves every type alone that stands in some words, a tree that was read from them comes back as it was, and no more words lie there than it has.
use Prim.Native.Nat.{ℕ, zero, suc, ◌+◌, ◌-◌}
use mathlib.Core.Path.{◌≡◌, refl, ap, ◌∙◌}
use mathlib.Core.List.{List}
use native.Mathlib.Omega.{arith}
use lib.ListN.{length, take, drop, length-append}
use Rattle.rast.specs.Tree.{Ty, Tys, nil, cons}
use Rattle.encoding.specs.declared.Head.{Head}
use Rattle.encoding.specs.Reading.{Reading, got}
use Rattle.encoding.specs.Tables.{name_count}
use Rattle.encoding.specs.Heads.{read_head}
use Rattle.encoding.specs.HeadWords.{kids}
use Rattle.encoding.specs.Types.{read_types, read_node, read_type}
use Rattle.encoding.proofs.Tables.{impossible}
use Rattle.encoding.proofs.Types.{bind-got, types-count}
use Rattle.encoding.proofs.Inside.{head-lies}
use Rattle.tree_words.specs.Encode.{encode, words, words_all}
use Rattle.tree_words.specs.Tokens.{encode_all}
use Rattle.tree_words.specs.Runs.{Run}
use Rattle.tree_words.specs.Numbered.{tree_at}
use Rattle.tree_words.proofs.Nodes.{Node, node-below, words-nil, words-cons}
use Rattle.tree_words.proofs.Spans.{type-stands, node-spells}
use Rattle.tree_words.proofs.Renaming.{encode-words, encode-all}
use Rattle.rebuild_spec.specs.Replace.{Replace, Replaces}
use Rattle.rebuild_spec.specs.Laying.{peak, peaks}
use Rattle.rebuild_spec.proofs.Nodes.{first_of, replace-same, peak-node}

-- a type that comes back as it was
pub record Kept (m : Ty ℕ → Ty ℕ) (t : Ty ℕ) : Type 0 where
  pub replaced : Replace m t ≡ t
  pub peaked : peak m t ≡ words t

record AllKept (m : Ty ℕ → Ty ℕ) (ts : Tys ℕ) : Type 0 where
  replaced : Replaces m ts ≡ ts
  peaked : peaks m ts ≡ words_all ts

module _ (m : Ty ℕ → Ty ℕ) where
  none_kept : AllKept m nil
  unfolding Replaces peaks
  none_kept = record { replaced = refl; peaked = omega (arith, words-nil ℕ) }

  more-kept : {t : Ty ℕ} {ts : Tys ℕ} → Kept m t → AllKept m ts → AllKept m (cons t ts)
  unfolding Replaces peaks
  more-kept {t} {ts} k ks = record {
    replaced = ap (λ x. cons x (Replaces m ts)) k.replaced ∙ ap (cons t) ks.replaced;
    peaked = omega (arith, k.peaked, ks.peaked, ap words k.replaced, words-cons t ts);
  }

  node_kept : {ws : List ℕ} {name : ℕ → ℕ} {h : Head} {ts : Tys ℕ} {t : Ty ℕ} (own : ℕ) → Node ws name h ts t → words t ≡ own + words_all ts → m t ≡ t → AllKept m ts → Kept m t
  node_kept {t = t} own k w e ks =
      let r = replace-same m k ks.replaced e in
      record { replaced = r; peaked = omega (arith, peak-node m own k w, w, ks.peaked, ap words r) }

module _ (b : ℕ) (ws : List ℕ) (m : Ty ℕ → Ty ℕ) (stays : (q : ℕ) (t : Ty ℕ) → Run ws q (encode t) → m t ≡ t) where
  all-kept : (again : ℕ → Reading (Ty ℕ)) → ((p : ℕ) (t : Ty ℕ) (n : ℕ) → again p ≡ got t n → Kept m t) → (k p : ℕ) (ts : Tys ℕ) (n : ℕ) → read_types again k p ≡ got ts n → AllKept m ts
  all-kept again h k p nil n e = none_kept m
  all-kept again h k p (cons t ts) n e =
      let f = first_of again k p e in
      more-kept m (h p t f.middle f.first) (all-kept again h (k - 1) f.middle ts n f.others)

  kept : (deep at : ℕ) (t : Ty ℕ) (n : ℕ) → read_type b ws (λ x. x) deep at ≡ got t n → Kept m t
  unfolding read_type
  kept zero at t n e = impossible (cc)
  kept (suc deep) at t n e =
      let again = read_type b ws (λ x. x) deep in
      let d = bind-got (read_head b ws at) (λ h p. read_node ws (λ x. x) again h p) e in
      let k = node-below ws (λ x. x) again d.value d.end d.rest in
      let own = take (d.end - at) (drop at ws) in
      let s = node-spells b ws at d.first k.node (types-count again (kids d.value) d.end k.reads) in
      let w : words t ≡ length own + words_all k.types = omega (arith, ap length s, length-append own (encode_all k.types), encode-words t, encode-all k.types) in
      let l = head-lies b ws at d.first in
      let r = type-stands b ws (suc deep) at t n (omega (arith, l.starts, l.ends)) e in
      node_kept m (length own) k.node w (stays at t r.0) (all-kept again (kept deep) (kids d.value) d.end k.types n k.reads)

pub still : (ws pairs : List ℕ) (m : Ty ℕ → Ty ℕ) → ((q : ℕ) (t : Ty ℕ) → Run ws q (encode t) → m t ≡ t) → (at : ℕ) {t : Ty ℕ} {n : ℕ} → tree_at ws pairs at ≡ got t n → Kept m t
still ws pairs m stays at {t} {n} e = kept (name_count pairs) ws m stays 64 at t n e
