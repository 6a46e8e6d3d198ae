-- A type that was read is a head and the types that follow it, one behind the other.
use Prim.Native.Nat.{ℕ, zero, suc, ◌+◌, ◌-◌, ◌%◌, ◌<◌}
use mathlib.Core.Path.{◌≡◌, refl, ap, sym, subst}
use mathlib.Core.List.{List}
use native.Mathlib.Numerals.{add-one}
use native.Mathlib.Omega.{arith}
use lib.Dec.{eqb, leb}
use lib.ListN.{get_or, length-append}
use Rattle.rast.specs.Tree.{U8, Ty, Tys, Primitive, TIdentifier, TypeFromPath, TypeApp, Borrowed, BorrowedMut, ImplType, DynType, TupleType, FnType, IntersectionType, Array, TSynonym, TMetaData, nil, cons}
use Rattle.encoding.specs.declared.PathAt.{PathAt}
use Rattle.encoding.specs.declared.Head.{Head}
use Rattle.encoding.specs.declared.Head.TheVariants.{Plain, Name, FromPath, Apply, Ref, RefMut, Impl, Dyn, Tuple, Function, Both, ArrayOf, Synonym, Meta}
use Rattle.encoding.specs.Reading.{Reading, got, ◌>>=◌}
use Rattle.encoding.specs.HeadWords.{kids}
use Rattle.encoding.specs.Types.{primitives, path_of, size_of, read_types, read_node}
use Rattle.encoding.proofs.Types.{made_got, made₂-got, snoc}
use Rattle.tree_words.specs.Encode.{tokens, tokens_all, words, words_all}

-- ---- how many words some types take

pub words-nil : (N : Type 0) → words_all {N = N} nil ≡ 0
unfolding words_all tokens_all
words-nil N = refl

pub words-cons : {N : Type 0} (t : Ty N) (ts : Tys N) → words_all (cons t ts) ≡ words t + words_all ts
unfolding words words_all tokens_all
words-cons t ts = length-append (tokens t) (tokens_all ts)

pub words-one : {N : Type 0} (t : Ty N) → words_all (cons t nil) ≡ words t
words-one {N} t = omega (arith, words-cons t nil, words-nil N)

pub words_snoc : {N : Type 0} (ts : Tys N) (t : Ty N) → words_all (snoc ts t) ≡ words_all ts + words t
unfolding snoc
words_snoc {N} nil t = omega (arith, words-one t, words-nil N)
words_snoc (cons u us) t = let k = words_snoc us t in omega (arith, words-cons u us, words-cons u (snoc us t), k)

-- ---- a head's type

-- the type of a head and the types below it
pub data Node {N : Type 0} (ws : List ℕ) (name : ℕ → N) : Head → Tys N → Ty N → Type 0 where
  plain : (w : ℕ) → Node ws name (Plain w) nil (Primitive (get_or primitives w U8))
  ident : (x : ℕ) → Node ws name (Name x) nil (TIdentifier (name x))
  path : (p : PathAt) → Node ws name (FromPath p) nil (TypeFromPath (path_of ws name p))
  apply : (n : ℕ) (b : Ty N) (ts : Tys N) → Node ws name (Apply n) (cons b ts) (TypeApp b ts)
  ref : (t : Ty N) → Node ws name Ref (cons t nil) (Borrowed t)
  ref_mut : (t : Ty N) → Node ws name RefMut (cons t nil) (BorrowedMut t)
  impl : (t : Ty N) → Node ws name Impl (cons t nil) (ImplType t)
  dyn : (t : Ty N) → Node ws name Dyn (cons t nil) (DynType t)
  tuple : (n : ℕ) (ts : Tys N) → Node ws name (Tuple n) ts (TupleType ts)
  function : (n : ℕ) (ts : Tys N) (t : Ty N) → Node ws name (Function n) (snoc ts t) (FnType ts t)
  both : (l r : Ty N) → Node ws name Both (cons l (cons r nil)) (IntersectionType l r)
  array : (s : ℕ) (t : Ty N) → Node ws name (ArrayOf s) (cons t nil) (Array t (size_of name s))
  synonym : (d b : Ty N) → Node ws name Synonym (cons d (cons b nil)) (TSynonym d b)
  meta : (x : ℕ) (d : Ty N) → Node ws name (Meta x) (cons d nil) (TMetaData d (eqb (x % 2) 1) (leb 2 x))

module _ {N : Type 0} (f : ℕ → Reading (Ty N)) where
  -- the last of some types is read behind the others
  types_snoc : (n p q r : ℕ) {ts : Tys N} {t : Ty N} → read_types f n p ≡ got ts q → f q ≡ got t r → read_types f (suc n) p ≡ got (snoc ts t) r
  unfolding read_types snoc
  types_snoc zero p q r {ts} {t} e d = let z : ts ≡ nil = cc in let y : p ≡ q = cc in rw (z, y, d)
  types_snoc (suc n) p q r {ts} {t} e d =
      let m = made₂-got (f p) (read_types f n) cons e in
      rw (m.reads, types_snoc n m.middle q r m.reads₂ d) (ap (λ (us : Tys N). got (snoc us t) r) (sym m.made))

  pub one-read : (p : ℕ) {t : Ty N} {q : ℕ} → f p ≡ got t q → read_types f 1 p ≡ got (cons t nil) q
  unfolding read_types
  one-read p e = rw e

  two-read : (p : ℕ) {t u : Ty N} {q r : ℕ} → f p ≡ got t q → f q ≡ got u r → read_types f 2 p ≡ got (cons t (cons u nil)) r
  unfolding read_types
  two-read p e d = rw (e, d)

  cons-read : (n p : ℕ) {t : Ty N} {ts : Tys N} {q r : ℕ} → f p ≡ got t q → read_types f n q ≡ got ts r → read_types f (n + 1) p ≡ got (cons t ts) r
  unfolding read_types
  cons-read n p e d = rw (add-one n, e, d)

-- what was read behind a head
pub record Below {N : Type 0} (ws : List ℕ) (name : ℕ → N) (f : ℕ → Reading (Ty N)) (h : Head) (p : ℕ) (t : Ty N) (n : ℕ) : Type 0 where
  pub types : Tys N
  pub reads : read_types f (kids h) p ≡ got types n
  pub node : Node ws name h types t

module _ {N : Type 0} (ws : List ℕ) (name : ℕ → N) (f : ℕ → Reading (Ty N)) where
  same-node : {h : Head} {ts : Tys N} (u : Ty N) {t : Ty N} → t ≡ u → Node ws name h ts u → Node ws name h ts t
  same-node {h} {ts} u e k = subst (Node ws name h ts) (sym e) k

  none : (h : Head) (p : ℕ) {t u : Ty N} {n : ℕ} → kids h ≡ 0 → Node ws name h nil u → got u p ≡ got t n → Below ws name f h p t n
  unfolding read_types
  none h p {t} {u} {n} z k e =
      let i : u ≡ t = cc in let j : p ≡ n = cc in
      record { types = nil; reads = rw (z, j); node = same-node u (sym i) k }

  under : (h : Head) (c : Ty N → Ty N) (p : ℕ) {t : Ty N} {n : ℕ} → kids h ≡ 1 → ((u : Ty N) → Node ws name h (cons u nil) (c u))
      → (f p >>= λ u q. got (c u) q) ≡ got t n → Below ws name f h p t n
  under h c p {t} {n} z k e =
      let m = made_got (f p) c e in
      record { types = cons m.value nil; reads = rw z (one-read f p m.reads); node = same-node _ m.made (k m.value) }

  beside : (h : Head) (c : Ty N → Ty N → Ty N) (p : ℕ) {t : Ty N} {n : ℕ} → kids h ≡ 2 → ((l r : Ty N) → Node ws name h (cons l (cons r nil)) (c l r))
      → (f p >>= λ l q. f q >>= λ r s. got (c l r) s) ≡ got t n → Below ws name f h p t n
  beside h c p {t} {n} z k e =
      let m = made₂-got (f p) f c e in
      record { types = cons m.left (cons m.right nil); reads = rw z (two-read f p m.reads m.reads₂); node = same-node _ m.made (k m.left m.right) }

  pub node-below : (h : Head) (p : ℕ) {t : Ty N} {n : ℕ} → read_node ws name f h p ≡ got t n → Below ws name f h p t n
  unfolding read_node
  node-below (Plain w) p e = none (Plain w) p refl (plain w) e
  node-below (Name x) p e = none (Name x) p refl (ident x) e
  node-below (FromPath x) p e = none (FromPath x) p refl (path x) e
  node-below (Apply k) p e =
      let m = made₂-got (f p) (read_types f k) TypeApp e in
      record { types = cons m.left m.right; reads = cons-read f k p m.reads m.reads₂; node = same-node _ m.made (apply k m.left m.right) }
  node-below Ref p e = under Ref Borrowed p refl ref e
  node-below RefMut p e = under RefMut BorrowedMut p refl ref_mut e
  node-below Impl p e = under Impl ImplType p refl impl e
  node-below Dyn p e = under Dyn DynType p refl dyn e
  node-below (Tuple k) p e =
      let m = made_got (read_types f k p) TupleType e in
      record { types = m.value; reads = m.reads; node = same-node _ m.made (tuple k m.value) }
  node-below (Function k) p e =
      let m = made₂-got (read_types f k p) f FnType e in
      record { types = snoc m.left m.right; reads = rw (add-one k) (types_snoc f k p m.middle _ m.reads m.reads₂); node = same-node _ m.made (function k m.left m.right) }
  node-below Both p e = beside Both IntersectionType p refl both e
  node-below (ArrayOf s) p e = under (ArrayOf s) (λ t. Array t (size_of name s)) p refl (array s) e
  node-below Synonym p e = beside Synonym TSynonym p refl synonym e
  node-below (Meta x) p e = under (Meta x) (λ t. TMetaData t (eqb (x % 2) 1) (leb 2 x)) p refl (meta x) e

-- the first of some types, and those behind it
pub record First {N : Type 0} (f : ℕ → Reading (Ty N)) (left p : ℕ) (ts : Tys N) (n : ℕ) : Type 0 where
  pub type : Ty N
  pub middle : ℕ
  pub more : Tys N
  pub first : f p ≡ got type middle
  pub others : read_types f (left - 1) middle ≡ got more n
  pub made : ts ≡ cons type more

pub first-type : {N : Type 0} (f : ℕ → Reading (Ty N)) (left p : ℕ) {ts : Tys N} {n : ℕ} → 0 < left → read_types f left p ≡ got ts n → First f left p ts n
unfolding read_types
first-type f zero p h e = absurd (let z : ⊥ = omega arith in z)
first-type f (suc k) p {ts} {n} h e =
    let m = made₂-got (f p) (read_types f k) cons e in
    let z : suc k - 1 ≡ k = omega arith in
    record { type = m.left; middle = m.middle; more = m.right; first = m.reads; others = rw z m.reads₂; made = m.made }
