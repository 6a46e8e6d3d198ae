-- The names of a type that was read are in the table.
use Prim.Native.Nat.{ℕ, zero, suc, ◌+◌, ◌-◌, ◌≤◌, ◌<◌}
use mathlib.Core.Path.{◌≡◌, ap, sym, ◌∙◌}
use mathlib.Core.List.{List, [], ◌∷◌, ◌++◌, map, append-nil, append_assoc, map-id}
use native.Mathlib.Omega.{arith}
use borrow.Author.Tests.{ne_eqb}
use lib.ListN.{length, get_or, take, drop}
use Rattle.rast.specs.Tree.{Ty, Tys, nil, cons}
use Rattle.encoding.specs.declared.PathAt.{PathAt}
use Rattle.encoding.specs.declared.Head.{Head}
use Rattle.encoding.specs.Reading.{Reading, got}
use Rattle.encoding.specs.Heads.{read_head}
use Rattle.encoding.specs.HeadWords.{kids, InsidePath, InsideHead}
use Rattle.encoding.specs.Types.{path_of, size_of, read_types, read_type}
use Rattle.encoding.proofs.Tables.{impossible}
use Rattle.encoding.proofs.Inside.{head-lies}
use Rattle.encoding.proofs.Types.{bind-got, made₂-got, snoc}
use Rattle.buffer.proofs.Laws.{part-more}
use Rattle.tree_words.specs.Encode.{name, size, path_tokens, tokens, tokens_all}
use Rattle.tree_words.specs.Names.{Each, NameBelow, NamesBelow}
use Rattle.tree_words.proofs.Nodes.{Node, plain, ident, path, apply, ref, ref_mut, impl, dyn, tuple, function, both, array, synonym, meta, node-below}
use Rattle.tree_words.proofs.Spans.{path_names}

-- ---- things one behind the other

module _ {A : Type 0} (P : A → Type 0) where
  pub each-left : (xs ys : List A) → Each P (xs ++ ys) → Each P xs
  each-left [] ys h = tt
  each-left (x ∷ xs) ys h = (h.0, each-left xs ys h.1)

  pub each-right : (xs ys : List A) → Each P (xs ++ ys) → Each P ys
  each-right [] ys h = h
  each-right (x ∷ xs) ys h = each-right xs ys h.1

  pub each-join : (xs ys : List A) → Each P xs → Each P ys → Each P (xs ++ ys)
  each-join [] ys h k = k
  each-join (x ∷ xs) ys h k = (h.0, each-join xs ys h.1 k)

-- ---- own words

module _ (b : ℕ) (ws : List ℕ) where
  -- names that stand from a position on
  part-names : (n at : ℕ) → at + n ≤ length ws → ((i : ℕ) → at ≤ i → i < at + n → get_or ws i 0 < b) → NamesBelow b (map name (take n (drop at ws)))
  part-names zero at l h = tt
  part-names (suc n) at l h =
      let e : take (suc n) (drop at ws) ≡ get_or ws at 0 ∷ take n (drop (at + 1) ws) = part-more ws at (suc n) (omega arith) (omega arith) ∙ ap (λ k. get_or ws at 0 ∷ take k (drop (at + 1) ws)) (let z : suc n - 1 ≡ n = omega arith in z) in
      rw e (h at (omega arith) (omega arith), part-names n (at + 1) (omega arith) (λ i j k. h i (omega arith) (omega arith)))

  pub path-below : (x : PathAt) → InsidePath b ws x → NamesBelow b (path_tokens (path_of ws (λ i. i) x))
  unfolding path_tokens
  path-below x h =
      let xs = take x.count (drop x.start ws) in
      (tt, (tt, rw (path_names ws (λ i. i) x ∙ map-id xs) (part-names x.count x.start h.inside h.below)))

  size-below : (s : ℕ) → s < b + 1 → NameBelow b (size (size_of (λ x. x) s))
  unfolding size_of
  size-below zero h = tt
  size-below (suc s) h = let z : suc s - 1 ≡ s = omega arith in rw (ne_eqb (suc s) 0 (λ e. omega (arith, e)), z) (let k : s < b = omega (arith, h) in k)

  -- ---- whole types

  tokens-snoc : (ts : Tys ℕ) (t : Ty ℕ) → tokens_all (snoc ts t) ≡ tokens_all ts ++ tokens t
  unfolding snoc tokens_all
  tokens-snoc nil t = append-nil (tokens t)
  tokens-snoc (cons u us) t = ap (λ l. tokens u ++ l) (tokens-snoc us t) ∙ sym (append_assoc (tokens u) (tokens_all us) (tokens t))

  node-names : {h : Head} {ts : Tys ℕ} {t : Ty ℕ} → InsideHead b ws h → Node ws (λ x. x) h ts t → NamesBelow b (tokens_all ts) → NamesBelow b (tokens t)
  unfolding tokens tokens_all
  node-names i (plain w) k = (tt, tt)
  node-names i (ident x) k = (tt, (i, tt))
  node-names i (path x) k = (tt, path-below x i)
  node-names i (apply n c ts) k = (tt, (tt, k))
  node-names i (ref t) k = (tt, each-left (NameBelow b) (tokens t) [] k)
  node-names i (ref_mut t) k = (tt, each-left (NameBelow b) (tokens t) [] k)
  node-names i (impl t) k = (tt, each-left (NameBelow b) (tokens t) [] k)
  node-names i (dyn t) k = (tt, each-left (NameBelow b) (tokens t) [] k)
  node-names i (tuple n ts) k = (tt, (tt, k))
  node-names i (function n ts t) k = (tt, (tt, rw (tokens-snoc ts t) at k))
  node-names i (both l r) k = (tt, rw (append-nil (tokens r)) at k)
  node-names i (array s t) k = (tt, (size-below s i, each-left (NameBelow b) (tokens t) [] k))
  node-names i (synonym d c) k = (tt, rw (append-nil (tokens c)) at k)
  node-names i (meta x d) k = (tt, (tt, each-left (NameBelow b) (tokens d) [] k))

  all-names : (f : ℕ → Reading (Ty ℕ)) → ((p : ℕ) (t : Ty ℕ) (n : ℕ) → f p ≡ got t n → NamesBelow b (tokens t)) → (k p : ℕ) (ts : Tys ℕ) (n : ℕ) → read_types f k p ≡ got ts n → NamesBelow b (tokens_all ts)
  unfolding read_types tokens_all
  all-names f h zero p ts n e = let z : ts ≡ nil = cc in rw z tt
  all-names f h (suc k) p ts n e =
      let m = made₂-got (f p) (read_types f k) cons e in
      rw m.made (each-join (NameBelow b) (tokens m.left) (tokens_all m.right) (h p m.left m.middle m.reads) (all-names f h k m.middle m.right n m.reads₂))

  pub type-names : (deep p : ℕ) (t : Ty ℕ) (n : ℕ) → read_type b ws (λ x. x) deep p ≡ got t n → NamesBelow b (tokens t)
  unfolding read_type
  type-names zero p t n e = impossible (cc)
  type-names (suc deep) p t n e =
      let f = read_type b ws (λ x. x) deep in
      let d = bind-got (read_head b ws p) _ e in
      let m = node-below ws (λ x. x) f d.value d.end d.rest in
      node-names ((head-lies b ws p d.first).own) m.node (all-names f (type-names deep) (kids d.value) d.end m.types n m.reads)
