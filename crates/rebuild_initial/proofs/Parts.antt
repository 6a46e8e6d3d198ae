-- The parts of a tree where they stand, trees holding name numbers: behind wrappers, the one argument of a path's application, an array's element.
use Rattle.std.specs.Prelude.{Option}
use Rattle.std.proofs.Common.{◌≡◌, ℕ, ◌+◌, ◌-◌, ◌<◌, Bool, true, List, sym, refl, ap, ◌∙◌, append-nil, arith, length-append}
use Rattle.rast.specs.Bytes.{Bytes}
use Rattle.rast.specs.Tree.{Path, Ty, Tys, Primitive, TIdentifier, TypeFromPath, TypeApp, Borrowed, BorrowedMut, ImplType, DynType, TupleType, FnType, IntersectionType, Array, TSynonym, TMetaData, nil, cons, count}
use Rattle.rast.specs.DeclarationToString.{Expand}
use Rattle.encoding.specs.declared.Head.{Head}
use Rattle.encoding.specs.Reading.{got}
use Rattle.encoding.specs.HeadWords.{kids}
use Rattle.encoding.specs.Types.{read_types}
use Rattle.encoding.proofs.Tables.{impossible}
use Rattle.encoding.proofs.Types.{types-count}
use Rattle.tree_words.specs.Renamed.{renamed, renamed_all}
use Rattle.tree_words.specs.Encode.{tokens, tokens_all, words}
use Rattle.tree_words.specs.Numbered.{tree_at}
use Rattle.tree_words.proofs.Nodes.{Node, array, apply, synonym, meta}
use Rattle.tree_words.proofs.Heads.{tree-head, tree-here, tree-below}
use Rattle.tree_words.proofs.Renaming.{words-kept, tree-run}
use Rattle.rebuild_spec.specs.Laying.{depth}
use Rattle.rebuild_spec.proofs.Nodes.{first_of, depth-node}
use Rattle.unwrap.proofs.Expanding.{synonym-words, meta-words}
use Rattle.known_paths.specs.Matches.{on_path, applied}
use Rattle.shapes.specs.Parts.{expanded_at}

-- ---- children

array-node : {ws : List ℕ} {h : Head} {ts : Tys ℕ} {u : Ty ℕ} {z : Option ℕ} → Node ws (λ x. x) h ts (Array u z) → ts ≡ cons u nil
array-node (array s t) = refl

meta-node : {ws : List ℕ} {h : Head} {ts : Tys ℕ} {d : Ty ℕ} {c o : Bool} → Node ws (λ x. x) h ts (TMetaData d c o) → ts ≡ cons d nil
meta-node (meta x d) = refl

synonym-node : {ws : List ℕ} {h : Head} {ts : Tys ℕ} {d b : Ty ℕ} → Node ws (λ x. x) h ts (TSynonym d b) → ts ≡ cons d (cons b nil)
synonym-node (synonym d b) = refl

apply-node : {ws : List ℕ} {h : Head} {ts us : Tys ℕ} {b : Ty ℕ} → Node ws (λ x. x) h ts (TypeApp b us) → ts ≡ cons b us
apply-node (apply n b ts) = refl

array-words : (u : Ty ℕ) (z : Option ℕ) → words (Array u z) ≡ 2 + words u
unfolding words tokens
array-words u z = omega arith

apply-words : (b a : Ty ℕ) → words (TypeApp b (cons a nil)) ≡ 2 + words b + words a
unfolding words tokens tokens_all
apply-words b a = rw (append-nil (tokens a)) (omega (arith, length-append (tokens b) (tokens a)))

module _ (ws pairs : List ℕ) where
  pub tree-words : (at : ℕ) {t : Ty ℕ} {n : ℕ} → tree_at ws pairs at ≡ got t n → n ≡ at + words t
  tree-words at e = (tree-run ws pairs at (let h = tree-here ws pairs at e in omega arith) e).1

  last : (k q : ℕ) {n : ℕ} → read_types (tree_at ws pairs) k q ≡ got nil n → q ≡ n
  unfolding read_types count
  last k q {n} e =
      let c : 0 ≡ k = types-count (tree_at ws pairs) k q e in
      let d : got nil q ≡ got nil n = rw (sym c) at e in cc

  -- the trees below one
  children : (at : ℕ) {t : Ty ℕ} {n : ℕ} (ts : Tys ℕ) → tree_at ws pairs at ≡ got t n → ((h : Head) (us : Tys ℕ) → Node ws (λ x. x) h us t → us ≡ ts)
      → (k : ℕ) × (q : ℕ) × (read_types (tree_at ws pairs) k q ≡ got ts n)
  children at {t} {n} ts e f =
      let h = tree-head ws pairs at e in
      let b = tree-below ws pairs at e h.reads in
      (kids h.head, h.own, b.reads ∙ ap (λ us. got us n) (f h.head b.types b.node))

  -- the only child, and the second of two, behind `own` words of their parent's
  only_child : (at own : ℕ) {t u : Ty ℕ} {n : ℕ} → tree_at ws pairs at ≡ got t n → ((h : Head) (us : Tys ℕ) → Node ws (λ x. x) h us t → us ≡ cons u nil) → words t ≡ own + words u
      → tree_at ws pairs (at + own) ≡ got u n
  only_child at own {t} {u} {n} e k w =
      let c = children at (cons u nil) e k in
      let f = first_of (tree_at ws pairs) c.0 c.1 c.2 in
      let l = last (c.0 - 1) f.middle f.others in
      let i : c.1 ≡ at + own = omega (arith, tree-words at e, tree-words c.1 f.first, l, w) in
      rw (sym i) (f.first ∙ ap (got u) l)

  second-child : (at own : ℕ) {t d b : Ty ℕ} {n : ℕ} → tree_at ws pairs at ≡ got t n → ((h : Head) (us : Tys ℕ) → Node ws (λ x. x) h us t → us ≡ cons d (cons b nil)) → words t ≡ own + words d + words b
      → tree_at ws pairs (at + own + words d) ≡ got b n
  second-child at own {t} {d} {b} {n} e k w =
      let c = children at (cons d (cons b nil)) e k in
      let f = first_of (tree_at ws pairs) c.0 c.1 c.2 in
      let g = first_of (tree_at ws pairs) (c.0 - 1) f.middle f.others in
      let l = last (c.0 - 1 - 1) g.middle g.others in
      let i : f.middle ≡ at + own + words d = omega (arith, tree-words at e, tree-words f.middle g.first, l, w) in
      rw (sym i) (g.first ∙ ap (got b) l)

  pub array-below : (at : ℕ) {u : Ty ℕ} {z : Option ℕ} {n : ℕ} → tree_at ws pairs at ≡ got (Array u z) n → tree_at ws pairs (at + 2) ≡ got u n
  array-below at {u} {z} e = only_child at 2 e (λ h us. array-node) (array-words u z)

  meta-below : (at : ℕ) {d : Ty ℕ} {c o : Bool} {n : ℕ} → tree_at ws pairs at ≡ got (TMetaData d c o) n → tree_at ws pairs (at + 2) ≡ got d n
  meta-below at {d} {c} {o} e = only_child at 2 e (λ h us. meta-node) (meta-words d c o)

  synonym-below : (at : ℕ) {d b : Ty ℕ} {n : ℕ} → tree_at ws pairs at ≡ got (TSynonym d b) n → tree_at ws pairs (at + 1 + words d) ≡ got b n
  synonym-below at {d} {b} e = second-child at 1 e (λ h us. synonym-node) (synonym-words d b)

  pub apply-below : (at : ℕ) {b a : Ty ℕ} {n : ℕ} → tree_at ws pairs at ≡ got (TypeApp b (cons a nil)) n → tree_at ws pairs (at + 2 + words b) ≡ got a n
  apply-below at {b} {a} e = second-child at 2 e (λ h us. apply-node) (apply-words b a)

  pub deep-some : (at : ℕ) {t : Ty ℕ} {n : ℕ} → tree_at ws pairs at ≡ got t n → 0 < depth t
  deep-some at e = let d = depth-node (tree-below ws pairs at e (tree-head ws pairs at e).reads).node in omega (arith, d)

  -- ---- behind wrappers

  module _ (f : ℕ → Bytes) where
    -- where the tree stands that `Expand` gives
    pub record Opened (p : ℕ) (t : Ty ℕ) (n : ℕ) : Type 0 where
      pub reads : tree_at ws pairs (expanded_at p (renamed f t)).at ≡ got (Expand t) n
      pub tree : (expanded_at p (renamed f t)).tpe ≡ renamed f (Expand t)

    pub opened : (p : ℕ) (t : Ty ℕ) {n : ℕ} → tree_at ws pairs p ≡ got t n → Opened p t n
    unfolding expanded_at renamed Expand
    opened p (Primitive x) e = record { reads = e; tree = refl }
    opened p (TIdentifier x) e = record { reads = e; tree = refl }
    opened p (TypeFromPath x) e = record { reads = e; tree = refl }
    opened p (TypeApp b ts) e = record { reads = e; tree = refl }
    opened p (Borrowed t) e = record { reads = e; tree = refl }
    opened p (BorrowedMut t) e = record { reads = e; tree = refl }
    opened p (ImplType t) e = record { reads = e; tree = refl }
    opened p (DynType t) e = record { reads = e; tree = refl }
    opened p (TupleType ts) e = record { reads = e; tree = refl }
    opened p (FnType ts t) e = record { reads = e; tree = refl }
    opened p (IntersectionType l r) e = record { reads = e; tree = refl }
    opened p (Array t s) e = record { reads = e; tree = refl }
    opened p (TSynonym d b) {n} e =
        let k = opened (p + 1 + words (renamed f d)) b {n = n} (rw (words-kept f d) (synonym-below p e)) in
        record { reads = k.reads; tree = k.tree }
    opened p (TMetaData d c o) e =
        let k = opened (p + 2) d (meta-below p e) in
        record { reads = k.reads; tree = k.tree }

-- ---- an application of a path to one argument

pub record OneArgument (t : Ty ℕ) : Type 0 where
  pub path : Path ℕ
  pub argument : Ty ℕ
  pub made : t ≡ TypeApp (TypeFromPath path) (cons argument nil)

module _ (f : ℕ → Bytes) (g : Path Bytes → Tys Bytes → Bool) (h : (p : Path Bytes) (ts : Tys Bytes) → g p ts ≡ true → count ts ≡ 1) where
  one : (p : Path ℕ) (ts : Tys ℕ) → count (renamed_all f ts) ≡ 1 → OneArgument (TypeApp (TypeFromPath p) ts)
  unfolding count renamed_all
  one p nil e = absurd (let z : ⊥ = omega (arith, e) in z)
  one p (cons a nil) e = record { path = p; argument = a; made = refl }
  one p (cons a (cons b ts)) e = absurd (let z : ⊥ = omega (arith, e) in z)

  one-base : (b : Ty ℕ) (ts : Tys ℕ) → on_path (λ p. g p (renamed_all f ts)) (renamed f b) ≡ true → OneArgument (TypeApp b ts)
  unfolding on_path renamed
  one-base (Primitive x) ts e = impossible (cc)
  one-base (TIdentifier x) ts e = impossible (cc)
  one-base (TypeFromPath p) ts e = one p ts (h _ _ e)
  one-base (TypeApp b us) ts e = impossible (cc)
  one-base (Borrowed t) ts e = impossible (cc)
  one-base (BorrowedMut t) ts e = impossible (cc)
  one-base (ImplType t) ts e = impossible (cc)
  one-base (DynType t) ts e = impossible (cc)
  one-base (TupleType us) ts e = impossible (cc)
  one-base (FnType us t) ts e = impossible (cc)
  one-base (IntersectionType l r) ts e = impossible (cc)
  one-base (Array t s) ts e = impossible (cc)
  one-base (TSynonym d b) ts e = impossible (cc)
  one-base (TMetaData d c o) ts e = impossible (cc)

  pub one_argument : (t : Ty ℕ) → applied g (renamed f t) ≡ true → OneArgument t
  unfolding applied renamed
  one_argument (Primitive x) e = impossible (cc)
  one_argument (TIdentifier x) e = impossible (cc)
  one_argument (TypeFromPath p) e = impossible (cc)
  one_argument (TypeApp b ts) e = one-base b ts e
  one_argument (Borrowed t) e = impossible (cc)
  one_argument (BorrowedMut t) e = impossible (cc)
  one_argument (ImplType t) e = impossible (cc)
  one_argument (DynType t) e = impossible (cc)
  one_argument (TupleType us) e = impossible (cc)
  one_argument (FnType us t) e = impossible (cc)
  one_argument (IntersectionType l r) e = impossible (cc)
  one_argument (Array t s) e = impossible (cc)
  one_argument (TSynonym d b) e = impossible (cc)
  one_argument (TMetaData d c o) e = impossible (cc)
