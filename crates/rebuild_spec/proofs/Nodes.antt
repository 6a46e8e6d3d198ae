-- Replacement, peaks and depths of a head's type, from the types below it.
use Prim.Native.Nat.{ℕ, suc, ◌+◌, ◌-◌, ◌%◌, ◌≤◌, max}
use mathlib.Core.Path.{◌≡◌, refl, ap, sym, ◌∙◌}
use mathlib.Core.List.{List}
use native.Mathlib.Omega.{arith}
use lib.Dec.{eqb, leb}
use lib.ListN.{length-append}
use Rattle.rast.specs.Bytes.{Bytes}
use Rattle.rast.specs.Tree.{Ty, Tys, Primitive, TIdentifier, TypeFromPath, TypeApp, Borrowed, BorrowedMut, ImplType, DynType, TupleType, FnType, IntersectionType, Array, TSynonym, TMetaData, nil, cons, count}
use Rattle.encoding.specs.declared.Head.{Head}
use Rattle.encoding.specs.Reading.{Reading, got}
use Rattle.encoding.specs.Tables.{name_bytes}
use Rattle.encoding.specs.Types.{size_of, read_types}
use Rattle.encoding.proofs.Tables.{impossible}
use Rattle.encoding.proofs.Types.{snoc, count-snoc, types-count}
use Rattle.tree_words.specs.Encode.{tokens, tokens_all, words, words_all}
use Rattle.tree_words.proofs.Nodes.{first-type, Node, plain, ident, path, apply, ref, ref_mut, impl, dyn, tuple, function, both, array, synonym, meta, words-nil, words-cons, words-one, words_snoc}
use Rattle.rebuild_spec.specs.Replace.{Replace, Replaces, ReplaceMap}
use Rattle.rebuild_spec.specs.Laying.{depth, deepest, peak, peaks}
use Rattle.rebuild_spec.specs.Same.{same_by}
use Rattle.rebuild_spec.specs.Rules.{Rule, mapping_of}

snoc-parts : {N : Type 0} (ts us : Tys N) {t u : Ty N} → snoc ts t ≡ snoc us u → (ts ≡ us) × (t ≡ u)
unfolding snoc count
snoc-parts nil nil e = (refl, cc)
snoc-parts nil (cons v us) {u = u} e = let i : nil ≡ snoc us u = cc in impossible (omega (arith, ap count i, count-snoc us u))
snoc-parts (cons v ts) nil {t = t} e = let i : snoc ts t ≡ nil = cc in impossible (omega (arith, ap count i, count-snoc ts t))
snoc-parts (cons v ts) (cons w us) {t} {u} e =
    let i : v ≡ w = cc in
    let j : snoc ts t ≡ snoc us u = cc in
    let k = snoc-parts ts us j in
    (ap (λ x. cons x ts) i ∙ ap (cons w) k.0, k.1)

-- the first of types that were read, and those behind it
pub record FirstOf {N : Type 0} (again : ℕ → Reading (Ty N)) (k p : ℕ) (t : Ty N) (ts : Tys N) (n : ℕ) : Type 0 where
  pub middle : ℕ
  pub first : again p ≡ got t middle
  pub others : read_types again (k - 1) middle ≡ got ts n

pub first_of : {N : Type 0} (again : ℕ → Reading (Ty N)) (k p : ℕ) {t : Ty N} {ts : Tys N} {n : ℕ} → read_types again k p ≡ got (cons t ts) n → FirstOf again k p t ts n
unfolding count
first_of again k p {t} {ts} {n} e =
    let c = types-count again k p e in
    let f = first-type again k p (omega (arith, c)) e in
    let m = f.made in
    let i : f.type ≡ t = cc in
    let j : f.more ≡ ts = cc in
    record { middle = f.middle; first = f.first ∙ ap (λ v. got v f.middle) i; others = f.others ∙ ap (λ v. got v n) j }

module _ {N : Type 0} (m : Ty N → Ty N) where
  replaces-snoc : (ts : Tys N) (t : Ty N) → Replaces m (snoc ts t) ≡ snoc (Replaces m ts) (Replace m t)
  unfolding snoc Replaces
  replaces-snoc nil t = refl
  replaces-snoc (cons u us) t = ap (cons (Replace m u)) (replaces-snoc us t)

  pub replaces-count : (ts : Tys N) → count (Replaces m ts) ≡ count ts
  unfolding Replaces count
  replaces-count nil = refl
  replaces-count (cons t ts) = ap suc (replaces-count ts)

  -- a replaced type is the mapping of the same head over the replaced types below it
  pub record Replaced (ws : List ℕ) (name : ℕ → N) (h : Head) (ts : Tys N) (t : Ty N) : Type 0 where
    pub built : Ty N
    pub node : Node ws name h (Replaces m ts) built
    pub gives : Replace m t ≡ m built

  pub replace-node : {ws : List ℕ} {name : ℕ → N} {h : Head} {ts : Tys N} {t : Ty N} → Node ws name h ts t → Replaced ws name h ts t
  unfolding Replace
  replace-node (plain w) = record { built = _; node = plain w; gives = refl }
  replace-node (ident x) = record { built = _; node = ident x; gives = refl }
  replace-node (path p) = record { built = _; node = path p; gives = refl }
  replace-node (apply n b ts) = record { built = _; node = apply n (Replace m b) (Replaces m ts); gives = refl }
  replace-node (ref t) = record { built = _; node = ref (Replace m t); gives = refl }
  replace-node (ref_mut t) = record { built = _; node = ref_mut (Replace m t); gives = refl }
  replace-node (impl t) = record { built = _; node = impl (Replace m t); gives = refl }
  replace-node (dyn t) = record { built = _; node = dyn (Replace m t); gives = refl }
  replace-node (tuple n ts) = record { built = _; node = tuple n (Replaces m ts); gives = refl }
  replace-node (function n ts t) = record { built = FnType (Replaces m ts) (Replace m t); node = rw (replaces-snoc ts t) (function n (Replaces m ts) (Replace m t)); gives = refl }
  replace-node (both l r) = record { built = _; node = both (Replace m l) (Replace m r); gives = refl }
  replace-node (array s t) = record { built = _; node = array s (Replace m t); gives = refl }
  replace-node (synonym d b) = record { built = _; node = synonym (Replace m d) (Replace m b); gives = refl }
  replace-node (meta x d) = record { built = _; node = meta x (Replace m d); gives = refl }

  -- a type that is left alone comes back as it was, if those below it do
  pub replace-same : {ws : List ℕ} {name : ℕ → N} {h : Head} {ts : Tys N} {t : Ty N} → Node ws name h ts t → Replaces m ts ≡ ts → m t ≡ t → Replace m t ≡ t
  unfolding Replace Replaces
  replace-same (plain w) e f = f
  replace-same (ident x) e f = f
  replace-same (path p) e f = f
  replace-same (apply n b ts) e f = let i : Replace m b ≡ b = cc in let j : Replaces m ts ≡ ts = cc in ap (λ x. m (TypeApp x (Replaces m ts))) i ∙ ap (λ x. m (TypeApp b x)) j ∙ f
  replace-same (ref t) e f = let i : Replace m t ≡ t = cc in ap (λ x. m (Borrowed x)) i ∙ f
  replace-same (ref_mut t) e f = let i : Replace m t ≡ t = cc in ap (λ x. m (BorrowedMut x)) i ∙ f
  replace-same (impl t) e f = let i : Replace m t ≡ t = cc in ap (λ x. m (ImplType x)) i ∙ f
  replace-same (dyn t) e f = let i : Replace m t ≡ t = cc in ap (λ x. m (DynType x)) i ∙ f
  replace-same (tuple n ts) e f = ap (λ x. m (TupleType x)) e ∙ f
  replace-same (function n ts t) e f = let k = snoc-parts (Replaces m ts) ts (sym (replaces-snoc ts t) ∙ e) in ap (λ x. m (FnType x (Replace m t))) k.0 ∙ ap (λ x. m (FnType ts x)) k.1 ∙ f
  replace-same (both l r) e f = let i : Replace m l ≡ l = cc in let j : Replace m r ≡ r = cc in ap (λ x. m (IntersectionType x (Replace m r))) i ∙ ap (λ x. m (IntersectionType l x)) j ∙ f
  replace-same {name = name} (array s t) e f = let i : Replace m t ≡ t = cc in ap (λ x. m (Array x (size_of name s))) i ∙ f
  replace-same (synonym d b) e f = let i : Replace m d ≡ d = cc in let j : Replace m b ≡ b = cc in ap (λ x. m (TSynonym x (Replace m b))) i ∙ ap (λ x. m (TSynonym d x)) j ∙ f
  replace-same (meta x d) e f = let i : Replace m d ≡ d = cc in ap (λ y. m (TMetaData y (eqb (x % 2) 1) (leb 2 x))) i ∙ f

  -- ---- peaks

  pub peak-least : (t : Ty N) → words (Replace m t) ≤ peak m t
  unfolding peak
  peak-least (Primitive p) = omega arith
  peak-least (TIdentifier x) = omega arith
  peak-least (TypeFromPath p) = omega arith
  peak-least (TypeApp b ts) = omega arith
  peak-least (Borrowed t) = omega arith
  peak-least (BorrowedMut t) = omega arith
  peak-least (ImplType t) = omega arith
  peak-least (DynType t) = omega arith
  peak-least (TupleType ts) = omega arith
  peak-least (FnType ts t) = omega arith
  peak-least (IntersectionType l r) = omega arith
  peak-least (Array t s) = omega arith
  peak-least (TSynonym d b) = omega arith
  peak-least (TMetaData d c o) = omega arith

-- ---- words

words-two : {N : Type 0} (t u : Ty N) → words_all (cons t (cons u nil)) ≡ words t + words u
words-two t u = words-cons t (cons u nil) ∙ ap (λ n. words t + n) (words-one u)

-- ---- a head's type

module _ {N : Type 0} (m : Ty N → Ty N) where
  peaks-snoc : (ts : Tys N) (t : Ty N) → peaks m (snoc ts t) ≡ max (peaks m ts) (words_all (Replaces m ts) + peak m t)
  unfolding snoc peaks Replaces
  peaks-snoc nil t = omega (arith, peak-least m t, words-nil N)
  peaks-snoc (cons u us) t = let k = peaks-snoc us t in omega (arith, k, words-cons (Replace m u) (Replaces m us))

  -- own words, then the types below, then the finished type
  pub peak-node : {ws : List ℕ} {name : ℕ → N} {h : Head} {ts : Tys N} {t : Ty N} (own : ℕ) → Node ws name h ts t → words t ≡ own + words_all ts
      → peak m t ≡ max (own + peaks m ts) (words (Replace m t))
  unfolding peak peaks words words_all tokens
  peak-node own (plain w) e = omega (arith, e, words-nil N)
  peak-node own (ident x) e = omega (arith, e, words-nil N)
  peak-node own (path p) e = omega (arith, e, words-nil N)
  peak-node own (apply n b ts) e = omega (arith, e, words-cons b ts, length-append (tokens b) (tokens_all ts))
  peak-node own (ref t) e = omega (arith, e, words-one t, peak-least m t)
  peak-node own (ref_mut t) e = omega (arith, e, words-one t, peak-least m t)
  peak-node own (impl t) e = omega (arith, e, words-one t, peak-least m t)
  peak-node own (dyn t) e = omega (arith, e, words-one t, peak-least m t)
  peak-node own (tuple n ts) e = omega (arith, e)
  peak-node own (function n ts t) e = omega (arith, e, words_snoc ts t, peaks-snoc ts t, length-append (tokens_all ts) (tokens t))
  peak-node own (both l r) e = omega (arith, e, words-two l r, peak-least m r, length-append (tokens l) (tokens r))
  peak-node own (array s t) e = omega (arith, e, words-one t, peak-least m t)
  peak-node own (synonym d b) e = omega (arith, e, words-two d b, peak-least m b, length-append (tokens d) (tokens b))
  peak-node own (meta x d) e = omega (arith, e, words-one d, peak-least m d)

deepest-snoc : {N : Type 0} (ts : Tys N) (t : Ty N) → deepest (snoc ts t) ≡ max (deepest ts) (depth t)
unfolding snoc deepest
deepest-snoc nil t = omega arith
deepest-snoc (cons u us) t = let k = deepest-snoc us t in omega (arith, k)

pub depth-node : {N : Type 0} {ws : List ℕ} {name : ℕ → N} {h : Head} {ts : Tys N} {t : Ty N} → Node ws name h ts t → depth t ≡ 1 + deepest ts
unfolding depth deepest
depth-node (plain w) = refl
depth-node (ident x) = refl
depth-node (path p) = refl
depth-node (apply n b ts) = refl
depth-node (ref t) = omega arith
depth-node (ref_mut t) = omega arith
depth-node (impl t) = omega arith
depth-node (dyn t) = omega arith
depth-node (tuple n ts) = refl
depth-node (function n ts t) = omega (arith, deepest-snoc ts t)
depth-node (both l r) = omega arith
depth-node (array s t) = omega arith
depth-node (synonym d b) = omega arith
depth-node (meta x d) = omega arith

-- ---- depths

-- a type is no deeper than it has words
mutual
  unfolding depth deepest words words_all tokens tokens_all

  pub depth-words : {N : Type 0} (t : Ty N) → depth t ≤ words t
  depth-words (Primitive p) = omega arith
  depth-words (TIdentifier x) = omega arith
  depth-words (TypeFromPath p) = omega arith
  depth-words (TypeApp b ts) = let h = depth-words b in let k = deepest-words ts in omega (arith, h, k, length-append (tokens b) (tokens_all ts))
  depth-words (Borrowed t) = let h = depth-words t in omega (arith, h)
  depth-words (BorrowedMut t) = let h = depth-words t in omega (arith, h)
  depth-words (ImplType t) = let h = depth-words t in omega (arith, h)
  depth-words (DynType t) = let h = depth-words t in omega (arith, h)
  depth-words (TupleType ts) = let h = deepest-words ts in omega (arith, h)
  depth-words (FnType ts t) = let h = deepest-words ts in let k = depth-words t in omega (arith, h, k, length-append (tokens_all ts) (tokens t))
  depth-words (IntersectionType l r) = let h = depth-words l in let k = depth-words r in omega (arith, h, k, length-append (tokens l) (tokens r))
  depth-words (Array t s) = let h = depth-words t in omega (arith, h)
  depth-words (TSynonym d b) = let h = depth-words d in let k = depth-words b in omega (arith, h, k, length-append (tokens d) (tokens b))
  depth-words (TMetaData d c o) = let h = depth-words d in omega (arith, h)

  pub deepest-words : {N : Type 0} (ts : Tys N) → deepest ts ≤ words_all ts
  deepest-words nil = omega arith
  deepest-words (cons t ts) = let h = depth-words t in let k = deepest-words ts in omega (arith, h, k, length-append (tokens t) (tokens_all ts))

-- ---- the source's `ReplaceMap`

-- what the calls rebuild by
pub replace-map : (pairs : List ℕ) (text : Bytes) (rs : List Rule) (t : Ty ℕ) → Replace (mapping_of pairs text rs) t ≡ ReplaceMap (same_by (name_bytes pairs text)) rs t
unfolding mapping_of ReplaceMap
replace-map pairs text rs t = refl
