-- The comparison of types decides whether they are equal: no two types are written alike.
use Rattle.std.specs.Prelude.{Option, Some, None}
use Prim.Native.Nat.{ℕ}
use mathlib.Core.Path.{◌≡◌, refl, ap, sym, ◌∙◌}
use mathlib.Core.Bool.{Bool, true, false}
use mathlib.Core.List.{List, [], ◌∷◌, ◌++◌, map, append_assoc}
use native.Mathlib.Omega.{arith}
use borrow.Author.Tests.{eqb-true, eq-eqb}
use lib.Dec.{eqb, ltb}
use lib.ListN.{length, get_or, drop}
use Rattle.rast.specs.Bytes.{Bytes, ◌and◌}
use Rattle.rast.specs.Tree.{Path, Global, Crate, Self, PMemberSelect, PrimitiveTy, U8, U16, U32, U64, U128, I8, I16, I32, I64, I128, USIZE, Bool·, Ty, Tys, Primitive, TIdentifier, TypeFromPath, TypeApp, Borrowed, BorrowedMut, ImplType, DynType, TupleType, FnType, IntersectionType, Array, TSynonym, TMetaData, nil, cons, count}
use Rattle.rast.proofs.BytesLaws.{and_left, and_right, same_self}
use Rattle.encoding.specs.Types.{primitives}
use Rattle.encoding.proofs.Tables.{impossible, same-eq}
use Rattle.tree_words.specs.Encode.{Token, word, name, size, primitive_word, flags_word, root_word, names, path_tokens, tokens, tokens_all}
use Rattle.rebuild_spec.specs.Same.{same_size, same_token, same_tokens, same_type}

-- ---- tokens

size-eq : (r s : Option Bytes) → same_size r s ≡ true → r ≡ s
unfolding same_size
size-eq None None e = refl
size-eq None (Some y) e = impossible (cc)
size-eq (Some x) None e = impossible (cc)
size-eq (Some x) (Some y) e = ap Some (same-eq x y e)

token-eq : (x y : Token Bytes) → same_token x y ≡ true → x ≡ y
unfolding same_token
token-eq (word j) (word k) e = ap word (eqb-true j k e)
token-eq (word j) (name y) e = impossible (cc)
token-eq (word j) (size s) e = impossible (cc)
token-eq (name x) (word k) e = impossible (cc)
token-eq (name x) (name y) e = ap name (same-eq x y e)
token-eq (name x) (size s) e = impossible (cc)
token-eq (size r) (word k) e = impossible (cc)
token-eq (size r) (name y) e = impossible (cc)
token-eq (size r) (size s) e = ap size (size-eq r s e)

tokens-eq : (xs ys : List (Token Bytes)) → same_tokens xs ys ≡ true → xs ≡ ys
unfolding same_tokens
tokens-eq [] [] e = refl
tokens-eq [] (y ∷ ys) e = impossible (cc)
tokens-eq (x ∷ xs) [] e = impossible (cc)
tokens-eq (x ∷ xs) (y ∷ ys) e =
    ap (λ t. t ∷ xs) (token-eq x y (and_left (same_token x y) (same_tokens xs ys) e)) ∙ ap (λ l. y ∷ l) (tokens-eq xs ys (and_right (same_token x y) (same_tokens xs ys) e))

tokens-self : (xs : List (Token Bytes)) → same_tokens xs xs ≡ true
unfolding same_tokens same_token same_size ◌and◌
tokens-self [] = refl
tokens-self (word k ∷ xs) = rw (eq-eqb k k refl) (tokens-self xs)
tokens-self (name x ∷ xs) = rw (same_self x) (tokens-self xs)
tokens-self (size None ∷ xs) = tokens-self xs
tokens-self (size (Some x) ∷ xs) = rw (same_self x) (tokens-self xs)

-- ---- own words

first_word : {N : Type 0} → List (Token N) → ℕ
first_word [] = 0
first_word (word k ∷ xs) = k
first_word (name x ∷ xs) = 0
first_word (size s ∷ xs) = 0

primitive-back : (p : PrimitiveTy) → get_or primitives (primitive_word p) U8 ≡ p
unfolding primitives primitive_word
primitive-back U8 = refl
primitive-back U16 = refl
primitive-back U32 = refl
primitive-back U64 = refl
primitive-back U128 = refl
primitive-back I8 = refl
primitive-back I16 = refl
primitive-back I32 = refl
primitive-back I64 = refl
primitive-back I128 = refl
primitive-back USIZE = refl
primitive-back Bool· = refl

primitive-once : (p q : PrimitiveTy) → primitive_word p ≡ primitive_word q → p ≡ q
primitive-once p q e = sym (primitive-back p) ∙ ap (λ k. get_or primitives k U8) e ∙ primitive-back q

primitive-small : (p : PrimitiveTy) → ltb (primitive_word p) 12 ≡ true
unfolding primitive_word
primitive-small U8 = refl
primitive-small U16 = refl
primitive-small U32 = refl
primitive-small U64 = refl
primitive-small U128 = refl
primitive-small I8 = refl
primitive-small I16 = refl
primitive-small I32 = refl
primitive-small I64 = refl
primitive-small I128 = refl
primitive-small USIZE = refl
primitive-small Bool· = refl

-- different kinds
differ : {A : Type 0} (j k : ℕ) → j ≡ k → eqb j k ≡ false → A
differ j k e d = impossible (let z = eq-eqb j k e in cc)

flags-once : (c o c' o' : Bool) → flags_word c o ≡ flags_word c' o' → (c ≡ c') × (o ≡ o')
unfolding flags_word
flags-once false false false false e = (refl, refl)
flags-once false false false true e = differ 0 2 e refl
flags-once false false true false e = differ 0 1 e refl
flags-once false false true true e = differ 0 3 e refl
flags-once false true false false e = differ 2 0 e refl
flags-once false true false true e = (refl, refl)
flags-once false true true false e = differ 2 1 e refl
flags-once false true true true e = differ 2 3 e refl
flags-once true false false false e = differ 1 0 e refl
flags-once true false false true e = differ 1 2 e refl
flags-once true false true false e = (refl, refl)
flags-once true false true true e = differ 1 3 e refl
flags-once true true false false e = differ 3 0 e refl
flags-once true true false true e = differ 3 2 e refl
flags-once true true true false e = differ 3 1 e refl
flags-once true true true true e = (refl, refl)

regroup : {A : Type 0} (a b xs c d ys : List A) → (a ++ b) ++ xs ≡ (c ++ d) ++ ys → a ++ (b ++ xs) ≡ c ++ (d ++ ys)
regroup a b xs c d ys e = sym (append_assoc a b xs) ∙ e ∙ append_assoc c d ys

-- ---- paths

split-names : {N : Type 0} (ns ms : List N) (xs ys : List (Token N)) → length ns ≡ length ms → map name ns ++ xs ≡ map name ms ++ ys → (ns ≡ ms) × (xs ≡ ys)
split-names [] [] xs ys l e = (refl, e)
split-names [] (b ∷ ms) xs ys l e = absurd (let z : ⊥ = omega (arith, l) in z)
split-names (a ∷ ns) [] xs ys l e = absurd (let z : ⊥ = omega (arith, l) in z)
split-names (a ∷ ns) (b ∷ ms) xs ys l e =
    let i : a ≡ b = cc in
    let k = split-names ns ms xs ys (omega (arith, l)) (ap (drop 1) e) in
    (ap (λ v. v ∷ ns) i ∙ ap (λ v. b ∷ v) k.0, k.1)

snoc-once : {N : Type 0} (ns ms : List N) (x y : N) → ns ++ (x ∷ []) ≡ ms ++ (y ∷ []) → (ns ≡ ms) × (x ≡ y)
snoc-once [] [] x y e = (refl, cc)
snoc-once [] (b ∷ []) x y e = impossible (cc)
snoc-once [] (b ∷ (c ∷ ms)) x y e = impossible (cc)
snoc-once (a ∷ []) [] x y e = impossible (cc)
snoc-once (a ∷ (c ∷ ns)) [] x y e = impossible (cc)
snoc-once (a ∷ ns) (b ∷ ms) x y e =
    let i : a ≡ b = cc in
    let k = snoc-once ns ms x y (ap (drop 1) e) in
    (ap (λ v. v ∷ ns) i ∙ ap (λ v. b ∷ v) k.0, k.1)

snoc-some : {N : Type 0} (ns : List N) (x : N) → ns ++ (x ∷ []) ≡ [] → ⊥
snoc-some [] x e = impossible (cc)
snoc-some (a ∷ ns) x e = impossible (cc)

path-same : {N : Type 0} (p q : Path N) → root_word p ≡ root_word q → names p ≡ names q → p ≡ q
unfolding root_word names
path-same Global Global r n = refl
path-same Global Crate r n = differ 0 1 r refl
path-same Global Self r n = differ 0 2 r refl
path-same Crate Global r n = differ 1 0 r refl
path-same Crate Crate r n = refl
path-same Crate Self r n = differ 1 2 r refl
path-same Self Global r n = differ 2 0 r refl
path-same Self Crate r n = differ 2 1 r refl
path-same Self Self r n = refl
path-same Global (PMemberSelect q y) r n = absurd (snoc-some (names q) y (sym n))
path-same Crate (PMemberSelect q y) r n = absurd (snoc-some (names q) y (sym n))
path-same Self (PMemberSelect q y) r n = absurd (snoc-some (names q) y (sym n))
path-same (PMemberSelect p x) Global r n = absurd (snoc-some (names p) x n)
path-same (PMemberSelect p x) Crate r n = absurd (snoc-some (names p) x n)
path-same (PMemberSelect p x) Self r n = absurd (snoc-some (names p) x n)
path-same (PMemberSelect p x) (PMemberSelect q y) r n =
    let k = snoc-once (names p) (names q) x y n in
    ap (λ v. PMemberSelect v x) (path-same p q r k.0) ∙ ap (PMemberSelect q) k.1

path-once : {N : Type 0} (p q : Path N) (xs ys : List (Token N)) → path_tokens p ++ xs ≡ path_tokens q ++ ys → (p ≡ q) × (xs ≡ ys)
unfolding path_tokens
path-once p q xs ys e =
    let r : root_word p ≡ root_word q = cc in
    let l : length (names p) ≡ length (names q) = cc in
    let k = split-names (names p) (names q) xs ys l (ap (drop 2) e) in
    (path-same p q r k.0, k.1)

-- ---- types

-- the constructors with several arguments, over all of them at once
abbrev applied : {N : Type 0} → (Ty N × Tys N) → Ty N
applied x = TypeApp x.0 x.1

abbrev function : {N : Type 0} → (Tys N × Ty N) → Ty N
function x = FnType x.0 x.1

abbrev both : {N : Type 0} → (Ty N × Ty N) → Ty N
both x = IntersectionType x.0 x.1

abbrev array : {N : Type 0} → (Ty N × Option N) → Ty N
array x = Array x.0 x.1

abbrev synonym : {N : Type 0} → (Ty N × Ty N) → Ty N
synonym x = TSynonym x.0 x.1

abbrev meta : {N : Type 0} → (Ty N × (Bool × Bool)) → Ty N
meta x = TMetaData x.0 x.1.0 x.1.1

-- a type that f makes
record Of {A N : Type 0} (f : A → Ty N) (u : Ty N) : Type 0 where
  value : A
  same : u ≡ f value

abbrev choice : Bool → Type 0 → Type 0 → Type 0
choice true A B = A
choice false A B = B

-- the type that words beginning with k are written for
abbrev OfKind : {N : Type 0} → ℕ → Ty N → Type 0
OfKind k u =
    choice (ltb k 12) (Of Primitive u)
    (choice (eqb k 12) (Of TIdentifier u)
    (choice (eqb k 13) (Of TypeFromPath u)
    (choice (eqb k 14) (Of applied u)
    (choice (eqb k 15) (Of Borrowed u)
    (choice (eqb k 16) (Of BorrowedMut u)
    (choice (eqb k 17) (Of ImplType u)
    (choice (eqb k 18) (Of DynType u)
    (choice (eqb k 19) (Of TupleType u)
    (choice (eqb k 20) (Of function u)
    (choice (eqb k 21) (Of both u)
    (choice (eqb k 22) (Of array u)
    (choice (eqb k 23) (Of synonym u)
    (Of meta u)))))))))))))

of-first : {N : Type 0} (u : Ty N) (ys : List (Token N)) → OfKind (first_word (tokens u ++ ys)) u
unfolding tokens first_word
of-first (Primitive p) ys = rw (primitive-small p) (record { value = p; same = refl })
of-first (TIdentifier x) ys = record { value = x; same = refl }
of-first (TypeFromPath p) ys = record { value = p; same = refl }
of-first (TypeApp b ts) ys = record { value = (b, ts); same = refl }
of-first (Borrowed t) ys = record { value = t; same = refl }
of-first (BorrowedMut t) ys = record { value = t; same = refl }
of-first (ImplType t) ys = record { value = t; same = refl }
of-first (DynType t) ys = record { value = t; same = refl }
of-first (TupleType ts) ys = record { value = ts; same = refl }
of-first (FnType ts t) ys = record { value = (ts, t); same = refl }
of-first (IntersectionType l r) ys = record { value = (l, r); same = refl }
of-first (Array t s) ys = record { value = (t, s); same = refl }
of-first (TSynonym d b) ys = record { value = (d, b); same = refl }
of-first (TMetaData d c o) ys = record { value = (d, (c, o)); same = refl }

of-kind : {N : Type 0} (u : Ty N) (ys : List (Token N)) (k : ℕ) → k ≡ first_word (tokens u ++ ys) → OfKind k u
of-kind u ys k e = rw e (of-first u ys)

-- two types that f makes, from what it makes them of
made-once : {A N : Type 0} {P : Type 0} (f : A → Ty N) (a : A) {u : Ty N} → Of f u → ((b : A) → u ≡ f b → (a ≡ b) × P) → (f a ≡ u) × P
made-once f a v h = let k = h v.value v.same in (ap f k.0 ∙ sym v.same, k.1)

pair-once : {A B : Type 0} {a b : A} {c d : B} → a ≡ b → c ≡ d → ◌≡◌ {A = A × B} (a, c) (b, d)
pair-once {b = b} {c = c} e f = ap (λ x. (x, c)) e ∙ ap (λ y. (b, y)) f

mutual
  unfolding tokens tokens_all count first_word

  type-once : {N : Type 0} (t u : Ty N) (xs ys : List (Token N)) → tokens t ++ xs ≡ tokens u ++ ys → (t ≡ u) × (xs ≡ ys)
  type-once (Primitive p) u xs ys e =
      made-once Primitive p (rw (primitive-small p) at (of-kind u ys (primitive_word p) (ap first_word e)))
      (λ q s. let d = rw s at e in (primitive-once p q (ap first_word d), ap (drop 1) d))
  type-once (TIdentifier x) u xs ys e =
      made-once TIdentifier x (of-kind u ys 12 (ap first_word e)) (λ y s. let d = rw s at e in let i : x ≡ y = cc in (i, ap (drop 2) d))
  type-once (TypeFromPath p) u xs ys e =
      made-once TypeFromPath p (of-kind u ys 13 (ap first_word e)) (λ q s. path-once p q xs ys (ap (drop 1) (rw s at e)))
  type-once (TypeApp b ts) u xs ys e =
      made-once applied (b, ts) (of-kind u ys 14 (ap first_word e)) λ x s.
      let d = rw s at e in
      let k = type-once b x.0 (tokens_all ts ++ xs) (tokens_all x.1 ++ ys) (regroup (tokens b) (tokens_all ts) xs (tokens x.0) (tokens_all x.1) ys (ap (drop 2) d)) in
      let m = types-once ts x.1 xs ys (ap (λ l. first_word (drop 1 l)) d) k.1 in
      (pair-once k.0 m.0, m.1)
  type-once (Borrowed t) u xs ys e = made-once Borrowed t (of-kind u ys 15 (ap first_word e)) (λ v s. type-once t v xs ys (ap (drop 1) (rw s at e)))
  type-once (BorrowedMut t) u xs ys e = made-once BorrowedMut t (of-kind u ys 16 (ap first_word e)) (λ v s. type-once t v xs ys (ap (drop 1) (rw s at e)))
  type-once (ImplType t) u xs ys e = made-once ImplType t (of-kind u ys 17 (ap first_word e)) (λ v s. type-once t v xs ys (ap (drop 1) (rw s at e)))
  type-once (DynType t) u xs ys e = made-once DynType t (of-kind u ys 18 (ap first_word e)) (λ v s. type-once t v xs ys (ap (drop 1) (rw s at e)))
  type-once (TupleType ts) u xs ys e =
      made-once TupleType ts (of-kind u ys 19 (ap first_word e))
      (λ us s. let d = rw s at e in types-once ts us xs ys (ap (λ l. first_word (drop 1 l)) d) (ap (drop 2) d))
  type-once (FnType ts t) u xs ys e =
      made-once function (ts, t) (of-kind u ys 20 (ap first_word e)) λ x s.
      let d = rw s at e in
      let m = types-once ts x.0 (tokens t ++ xs) (tokens x.1 ++ ys) (ap (λ l. first_word (drop 1 l)) d) (regroup (tokens_all ts) (tokens t) xs (tokens_all x.0) (tokens x.1) ys (ap (drop 2) d)) in
      let k = type-once t x.1 xs ys m.1 in
      (pair-once m.0 k.0, k.1)
  type-once (IntersectionType l r) u xs ys e =
      made-once both (l, r) (of-kind u ys 21 (ap first_word e)) λ x s.
      let k = type-once l x.0 (tokens r ++ xs) (tokens x.1 ++ ys) (regroup (tokens l) (tokens r) xs (tokens x.0) (tokens x.1) ys (ap (drop 1) (rw s at e))) in
      let m = type-once r x.1 xs ys k.1 in
      (pair-once k.0 m.0, m.1)
  type-once (Array t n) u xs ys e =
      made-once array (t, n) (of-kind u ys 22 (ap first_word e)) λ x s.
      let d = rw s at e in
      let k = type-once t x.0 xs ys (ap (drop 2) d) in
      let i : n ≡ x.1 = cc in
      (pair-once k.0 i, k.1)
  type-once (TSynonym t b) u xs ys e =
      made-once synonym (t, b) (of-kind u ys 23 (ap first_word e)) λ x s.
      let k = type-once t x.0 (tokens b ++ xs) (tokens x.1 ++ ys) (regroup (tokens t) (tokens b) xs (tokens x.0) (tokens x.1) ys (ap (drop 1) (rw s at e))) in
      let m = type-once b x.1 xs ys k.1 in
      (pair-once k.0 m.0, m.1)
  type-once (TMetaData t c o) u xs ys e =
      made-once meta (t, (c, o)) (of-kind u ys 24 (ap first_word e)) λ x s.
      let d = rw s at e in
      let w : flags_word c o ≡ flags_word x.1.0 x.1.1 = ap (λ l. first_word (drop 1 l)) d in
      let f = flags-once c o x.1.0 x.1.1 w in
      let k = type-once t x.0 xs ys (ap (drop 2) d) in
      (pair-once k.0 (pair-once f.0 f.1), k.1)

  types-once : {N : Type 0} (ts us : Tys N) (xs ys : List (Token N)) → count ts ≡ count us → tokens_all ts ++ xs ≡ tokens_all us ++ ys → (ts ≡ us) × (xs ≡ ys)
  types-once nil nil xs ys c e = (refl, e)
  types-once nil (cons u us) xs ys c e = absurd (let z : ⊥ = omega (arith, c) in z)
  types-once (cons t ts) nil xs ys c e = absurd (let z : ⊥ = omega (arith, c) in z)
  types-once (cons t ts) (cons u us) xs ys c e =
      let k = type-once t u (tokens_all ts ++ xs) (tokens_all us ++ ys) (regroup (tokens t) (tokens_all ts) xs (tokens u) (tokens_all us) ys e) in
      let m = types-once ts us xs ys (omega (arith, c)) k.1 in
      (ap (λ v. cons v ts) k.0 ∙ ap (cons u) m.0, m.1)

-- types that compare equal are equal, and equal types do
pub same-type : (t u : Ty Bytes) → same_type t u ≡ true → t ≡ u
unfolding same_type
same-type t u e =
    let k : tokens t ++ [] ≡ tokens u ++ [] = ap (λ l. l ++ []) (tokens-eq (tokens t) (tokens u) e) in
    (type-once t u [] [] k).0

pub type-same : (t : Ty Bytes) → same_type t t ≡ true
unfolding same_type
type-same t = tokens-self (tokens t)
