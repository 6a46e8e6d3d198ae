-- The lists of types that stand one behind the other.
use Prim.Native.Nat.{ℕ, zero, suc, ◌+◌}
use mathlib.Core.Path.{◌≡◌, refl, ap, sym, ◌∙◌}
use mathlib.Core.List.{List, [], ◌∷◌, ◌++◌, append-nil, append_assoc}
use native.Mathlib.Omega.{arith}
use native.Mathlib.Nat.{suc-add, zero-add, add-zero}
use lib.ListN.{length-append}
use Rattle.rast.specs.Tree.{Ty, Tys, TSynonym, nil, cons}
use Rattle.encoding.specs.declared.Head.{Head}
use Rattle.encoding.specs.Reading.{Reading, got}
use Rattle.encoding.specs.Types.{read_types}
use Rattle.encoding.proofs.Types.{made₂-got, snoc}
use Rattle.encoding.proofs.TypeKinds.{kind}
use Rattle.tree_words.specs.Encode.{tokens, tokens_all, words, words_all}
use Rattle.tree_words.specs.Places.{Place, place}
use Rattle.tree_words.proofs.Nodes.{Node, plain, ident, path, apply, ref, ref_mut, impl, dyn, tuple, function, both, array, synonym, meta, words-cons, words-one, words_snoc}
use Rattle.visits.specs.Visited.{visited_from, visited_all, positions}

-- some types, and others behind them
unfoldable pub append : {N : Type 0} → Tys N → Tys N → Tys N
append nil us = us
append (cons t ts) us = cons t (append ts us)

pub types-join : {N : Type 0} (f : ℕ → Reading (Ty N)) (j k p : ℕ) {ts us : Tys N} {m n : ℕ} → read_types f j p ≡ got ts m → read_types f k m ≡ got us n
    → read_types f (j + k) p ≡ got (append ts us) n
unfolding read_types append
types-join f zero k p {ts} {us} {m} {n} e d = let z : ts ≡ nil = cc in let y : p ≡ m = cc in rw (zero-add k, z, y) d
types-join f (suc j) k p {ts} {us} {m} {n} e d =
    let c = made₂-got (f p) (read_types f j) cons e in
    rw (suc-add j k, c.reads, types-join f j k c.middle c.reads₂ d) (ap (λ vs. got (append vs us) n) (sym c.made))

module _ {N : Type 0} where
  pub positions-append : (ps qs : List (Place N)) → positions (ps ++ qs) ≡ positions ps ++ positions qs
  positions-append [] qs = refl
  positions-append (p ∷ ps) qs = ap (◌∷◌ p.at) (positions-append ps qs)

  -- the list of some types, the first at p
  abbrev pub list_of : ℕ → Tys N → List ℕ
  list_of p ts = positions (visited_all p ts)

  pub visited-join : (ts us : Tys N) (p : ℕ) → visited_all p (append ts us) ≡ visited_all p ts ++ visited_all (p + words_all ts) us
  unfolding visited_from append words_all tokens
  visited-join nil us p = rw (add-zero p)
  visited-join (cons t ts) us p =
      let e : p + words t + words_all ts ≡ p + words_all (cons t ts) = omega (arith, words-cons t ts) in
      ap (λ (l : List (Place N)). visited_from p t ++ l) (visited-join ts us (p + words t))
      ∙ sym (append_assoc (visited_from p t) (visited_all (p + words t) ts) (visited_all (p + words t + words_all ts) us))
      ∙ rw e

  -- one type alone
  visited-one : (t : Ty N) (p : ℕ) → visited_all p (cons t nil) ≡ visited_from p t
  unfolding visited_from
  visited-one t p = append-nil (visited_from p t)

  visited-snoc : (ts : Tys N) (t : Ty N) (p : ℕ) → visited_all p (snoc ts t) ≡ visited_all p ts ++ visited_from (p + words_all ts) t
  unfolding visited_from snoc words_all tokens
  visited-snoc nil t p = rw (add-zero p) (visited-one t p)
  visited-snoc (cons u us) t p =
      let e : p + words u + words_all us ≡ p + words_all (cons u us) = omega (arith, words-cons u us) in
      ap (λ (l : List (Place N)). visited_from p u ++ l) (visited-snoc us t (p + words u))
      ∙ sym (append_assoc (visited_from p u) (visited_all (p + words u) us) (visited_from (p + words u + words_all us) t))
      ∙ rw e

  -- a synonym's list is its place, and the list of its display
  pub visited-synonym : {t : Ty N} (at : ℕ) (d b : Ty N) → t ≡ TSynonym d b → visited_from at t ≡ place at t ∷ visited_all (at + 1) (cons d nil)
  unfolding visited_from
  visited-synonym at d b g = rw (g, visited-one d (at + 1))

  -- a type's list is its place, and the list of the types that follow its head; a synonym's base is not in it
  pub visited-node : {ws : List ℕ} {name : ℕ → N} {h : Head} {ts : Tys N} {t : Ty N} (at q : ℕ) → Node ws name h ts t → (kind t ≡ 23 → ⊥) → q + words_all ts ≡ at + words t
      → visited_from at t ≡ place at t ∷ visited_all q ts
  unfolding visited_from words words_all tokens
  visited-node at q (plain w) k e = refl
  visited-node at q (ident x) k e = refl
  visited-node at q (path p) k e = refl
  visited-node at q (apply n b ts) k e =
      let z : q ≡ at + 2 = omega (arith, words-cons b ts, length-append (tokens b) (tokens_all ts)) in rw z
  visited-node at q (ref t) k e = let z : q ≡ at + 1 = omega (arith, words-one t) in rw (z, visited-one t (at + 1))
  visited-node at q (ref_mut t) k e = let z : q ≡ at + 1 = omega (arith, words-one t) in rw (z, visited-one t (at + 1))
  visited-node at q (impl t) k e = let z : q ≡ at + 1 = omega (arith, words-one t) in rw (z, visited-one t (at + 1))
  visited-node at q (dyn t) k e = let z : q ≡ at + 1 = omega (arith, words-one t) in rw (z, visited-one t (at + 1))
  visited-node at q (tuple n ts) k e = let z : q ≡ at + 2 = omega arith in rw z
  visited-node at q (function n ts t) k e =
      let z : q ≡ at + 2 = omega (arith, words_snoc ts t, length-append (tokens_all ts) (tokens t)) in rw (z, visited-snoc ts t (at + 2))
  visited-node at q (both l r) k e =
      let z : q ≡ at + 1 = omega (arith, words-cons l (cons r nil), words-one r, length-append (tokens l) (tokens r)) in
      rw (z, append-nil (visited_from (at + 1 + words l) r))
  visited-node at q (array s t) k e = let z : q ≡ at + 2 = omega (arith, words-one t) in rw (z, visited-one t (at + 2))
  visited-node at q (synonym d b) k e = absurd (k refl)
  visited-node at q (meta x d) k e = let z : q ≡ at + 2 = omega (arith, words-one d) in rw (z, visited-one d (at + 2))
