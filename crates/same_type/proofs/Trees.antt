-- Comparing two runs of words is comparing the two trees: names by their bytes, the rest as it is.
use Rattle.std.specs.Prelude.{Some, None}
use Prim.Native.Nat.{ℕ, zero, suc, ◌-◌}
use mathlib.Core.Path.{◌≡◌, refl, ap, sym, ◌∙◌}
use mathlib.Core.Bool.{Bool, true, false}
use mathlib.Core.List.{List, [], ◌∷◌, ◌++◌, map, map-append, append_assoc, append-nil}
use native.Mathlib.Omega.{arith}
use borrow.Author.Tests.{eqb-true, ne_eqb, lt-ltb}
use lib.Dec.{ltb}
use lib.ListN.{length}
use Rattle.rast.specs.Bytes.{Bytes, ◌and◌}
use Rattle.rast.specs.Tree.{Path, PrimitiveTy, U8, U16, U32, U64, U128, I8, I16, I32, I64, I128, USIZE, Bool·, Ty, Tys, Primitive, TIdentifier, TypeFromPath, TypeApp, Borrowed, BorrowedMut, ImplType, DynType, TupleType, FnType, IntersectionType, Array, TSynonym, TMetaData, nil, cons, count}
use Rattle.tree_words.specs.Renamed.{renamed_size, renamed}
use Rattle.tree_words.specs.Encode.{Token, word, name, size, token_word, primitive_word, flags_word, root_word, names, path_tokens, tokens, tokens_all, encode}
use Rattle.tree_words.specs.Tokens.{renamed_token}
use Rattle.tree_words.proofs.Renaming.{tokens-renamed}
use Rattle.rebuild_spec.specs.Same.{same_size, same_token, same_tokens, same_type, same_by}
use Rattle.same_type.specs.declared.Due.{Due}
use Rattle.same_type.specs.declared.Due.TheVariants.{Kind, Exact, Sized, Root, Count, Names}
use Rattle.same_type.specs.Runs.{after, after_kind, agrees, same_runs}

-- ---- the tokens that a run of words stands for

unfoldable size_token : ℕ → Token ℕ
size_token zero = size None
size_token (suc x) = size (Some x)

unfoldable token_of : Due → ℕ → Token ℕ
token_of Kind w = word w
token_of Exact w = word w
token_of Sized s = size_token s
token_of Root w = word w
token_of Count w = word w
token_of (Names n) x = name x

unfoldable tokens_from : Due → List ℕ → List (Token ℕ)
tokens_from due [] = []
tokens_from due (x ∷ xs) = token_of due x ∷ tokens_from (after due x) xs

module _ (bytes : ℕ → Bytes) where
  agrees-size : (x y : ℕ) → agrees bytes Sized x y ≡ same_token (renamed_token bytes (size_token x)) (renamed_token bytes (size_token y))
  unfolding agrees same_token same_size renamed_token renamed_size size_token
  agrees-size zero zero = refl
  agrees-size zero (suc y) = ne_eqb (suc y) 0 (λ e. omega arith)
  agrees-size (suc x) zero = rw (ne_eqb (suc x) 0 (λ e. omega arith)) refl
  agrees-size (suc x) (suc y) =
      let z : suc x - 1 ≡ x = omega arith in let w : suc y - 1 ≡ y = omega arith in
      rw (ne_eqb (suc x) 0 (λ e. omega arith), ne_eqb (suc y) 0 (λ e. omega arith), z, w) refl

  agrees-token : (due : Due) (x y : ℕ) → agrees bytes due x y ≡ same_token (renamed_token bytes (token_of due x)) (renamed_token bytes (token_of due y))
  unfolding agrees same_token renamed_token token_of
  agrees-token Kind x y = refl
  agrees-token Exact x y = refl
  agrees-token Sized x y = agrees-size x y
  agrees-token Root x y = refl
  agrees-token Count x y = refl
  agrees-token (Names n) x y = refl

  -- words that agree are followed by the same
  agrees_after : (due : Due) (x y : ℕ) → agrees bytes due x y ≡ true → after due x ≡ after due y
  unfolding agrees after
  agrees_after Kind x y e = ap (after Kind) (eqb-true x y e)
  agrees_after Exact x y e = refl
  agrees_after Sized x y e = refl
  agrees_after Root x y e = refl
  agrees_after Count x y e = ap (after Count) (eqb-true x y e)
  agrees_after (Names n) x y e = refl

  same-tokens : (due : Due) (xs ys : List ℕ)
      → same_runs bytes due xs ys ≡ same_tokens (map (renamed_token bytes) (tokens_from due xs)) (map (renamed_token bytes) (tokens_from due ys))
  unfolding same_runs same_tokens tokens_from ◌and◌
  same-tokens due [] [] = refl
  same-tokens due [] (y ∷ ys) = refl
  same-tokens due (x ∷ xs) [] = refl
  same-tokens due (x ∷ xs) (y ∷ ys) = go (agrees bytes due x y) refl (same-tokens (after due x) xs ys)
    where
      go : (t : Bool) → agrees bytes due x y ≡ t
          → same_runs bytes (after due x) xs ys ≡ same_tokens (map (renamed_token bytes) (tokens_from (after due x) xs)) (map (renamed_token bytes) (tokens_from (after due x) ys))
          → (agrees bytes due x y and same_runs bytes (after due x) xs ys)
          ≡ (same_token (renamed_token bytes (token_of due x)) (renamed_token bytes (token_of due y)) and same_tokens (map (renamed_token bytes) (tokens_from (after due x) xs)) (map (renamed_token bytes) (tokens_from (after due y) ys)))
      go true e ih = rw (← agrees-token due x y, e, ← agrees_after due x y e) ih
      go false e ih = rw (← agrees-token due x y, e) refl

-- ---- the words of a tree stand for its tokens

names-due : (x : ℕ) (xs rest : List ℕ) → tokens_from (Names (suc (length xs))) (map token_word (map name (x ∷ xs)) ++ rest) ≡ map name (x ∷ xs) ++ tokens_from Kind rest
unfolding tokens_from token_of after token_word
names-due x [] rest = refl
names-due x (y ∷ xs) rest =
    let e : ltb 1 (suc (suc (length xs))) ≡ true = lt-ltb 1 (suc (suc (length xs))) (omega arith) in
    let z : suc (suc (length xs)) - 1 ≡ suc (length xs) = omega arith in
    let d : after (Names (suc (suc (length xs)))) x ≡ Names (suc (length xs)) = rw (e, z) refl in
    ap (λ (d : Due). name x ∷ tokens_from d (map token_word (map name (y ∷ xs)) ++ rest)) d
    ∙ ap (λ (l : List (Token ℕ)). name x ∷ l) (names-due y xs rest)

names-read : (xs : List ℕ) (rest : List ℕ) → tokens_from (after Count (length xs)) (map token_word (map name xs) ++ rest) ≡ map name xs ++ tokens_from Kind rest
unfolding after token_word
names-read [] rest = refl
names-read (x ∷ xs) rest =
    let e : ltb 0 (suc (length xs)) ≡ true = lt-ltb 0 (suc (length xs)) (omega arith) in
    let d : after Count (suc (length xs)) ≡ Names (suc (length xs)) = rw e refl in
    ap (λ (d : Due). tokens_from d (map token_word (map name (x ∷ xs)) ++ rest)) d ∙ names-due x xs rest

primitive-read : (p : PrimitiveTy) → after_kind (primitive_word p) ≡ Kind
unfolding after_kind primitive_word
primitive-read U8 = refl
primitive-read U16 = refl
primitive-read U32 = refl
primitive-read U64 = refl
primitive-read U128 = refl
primitive-read I8 = refl
primitive-read I16 = refl
primitive-read I32 = refl
primitive-read I64 = refl
primitive-read I128 = refl
primitive-read USIZE = refl
primitive-read Bool· = refl

-- the words of some tokens are read as these
Back : List (Token ℕ) → Type 0
Back xs = (rest : List ℕ) → tokens_from Kind (map token_word xs ++ rest) ≡ xs ++ tokens_from Kind rest

two_back : (xs ys : List (Token ℕ)) → Back xs → Back ys → Back (xs ++ ys)
unfolding Back
two_back xs ys h k rest =
    ap (λ l. tokens_from Kind (l ++ rest)) (map-append token_word xs ys)
    ∙ ap (tokens_from Kind) (append_assoc (map token_word xs) (map token_word ys) rest)
    ∙ h (map token_word ys ++ rest)
    ∙ ap (λ l. xs ++ l) (k rest)
    ∙ sym (append_assoc xs ys (tokens_from Kind rest))

path-back : (p : Path ℕ) → Back (word 13 ∷ path_tokens p)
unfolding Back path_tokens tokens_from token_of token_word after after_kind
path-back p rest = ap (λ l. word 13 ∷ word (root_word p) ∷ word (length (names p)) ∷ l) (names-read (names p) rest)

mutual
  unfolding Back tokens tokens_all tokens_from token_of token_word after after_kind size_token

  tokens-back : (t : Ty ℕ) → Back (tokens t)
  tokens-back (Primitive p) rest = ap (λ d. word (primitive_word p) ∷ tokens_from d rest) (primitive-read p)
  tokens-back (TIdentifier x) rest = refl
  tokens-back (TypeFromPath p) rest = path-back p rest
  tokens-back (TypeApp b ts) rest = ap (λ l. word 14 ∷ word (count ts) ∷ l) (two_back (tokens b) (tokens_all ts) (λ x. tokens-back b x) (λ x. tokens_all-back ts x) rest)
  tokens-back (Borrowed t) rest = ap (λ l. word 15 ∷ l) (tokens-back t rest)
  tokens-back (BorrowedMut t) rest = ap (λ l. word 16 ∷ l) (tokens-back t rest)
  tokens-back (ImplType t) rest = ap (λ l. word 17 ∷ l) (tokens-back t rest)
  tokens-back (DynType t) rest = ap (λ l. word 18 ∷ l) (tokens-back t rest)
  tokens-back (TupleType ts) rest = ap (λ l. word 19 ∷ word (count ts) ∷ l) (tokens_all-back ts rest)
  tokens-back (FnType ts t) rest = ap (λ l. word 20 ∷ word (count ts) ∷ l) (two_back (tokens_all ts) (tokens t) (λ x. tokens_all-back ts x) (λ x. tokens-back t x) rest)
  tokens-back (IntersectionType l r) rest = ap (λ l. word 21 ∷ l) (two_back (tokens l) (tokens r) (λ x. tokens-back l x) (λ x. tokens-back r x) rest)
  tokens-back (Array t None) rest = ap (λ l. word 22 ∷ size None ∷ l) (tokens-back t rest)
  tokens-back (Array t (Some x)) rest = ap (λ l. word 22 ∷ size (Some x) ∷ l) (tokens-back t rest)
  tokens-back (TSynonym d b) rest = ap (λ l. word 23 ∷ l) (two_back (tokens d) (tokens b) (λ x. tokens-back d x) (λ x. tokens-back b x) rest)
  tokens-back (TMetaData d c o) rest = ap (λ l. word 24 ∷ word (flags_word c o) ∷ l) (tokens-back d rest)

  tokens_all-back : (ts : Tys ℕ) → Back (tokens_all ts)
  tokens_all-back nil rest = refl
  tokens_all-back (cons t ts) rest = two_back (tokens t) (tokens_all ts) (λ x. tokens-back t x) (λ x. tokens_all-back ts x) rest

tokens-read : (t : Ty ℕ) → tokens_from Kind (encode t) ≡ tokens t
unfolding Back encode tokens_from
tokens-read t = ap (tokens_from Kind) (sym (append-nil (map token_word (tokens t)))) ∙ tokens-back t [] ∙ append-nil (tokens t)

-- ---- on words as on trees

-- the comparison of words decides whether the trees are the same
pub same-encoded : (bytes : ℕ → Bytes) (t u : Ty ℕ) → same_runs bytes Kind (encode t) (encode u) ≡ same_by bytes t u
unfolding same_by same_type
same-encoded bytes t u =
    same-tokens bytes Kind (encode t) (encode u)
    ∙ ap (λ x. same_tokens (map (renamed_token bytes) x) (map (renamed_token bytes) (tokens_from Kind (encode u)))) (tokens-read t)
    ∙ ap (λ y. same_tokens (map (renamed_token bytes) (tokens t)) (map (renamed_token bytes) y)) (tokens-read u)
    ∙ ap (λ x. same_tokens x (map (renamed_token bytes) (tokens u))) (sym (tokens-renamed bytes t))
    ∙ ap (same_tokens (tokens (renamed bytes t))) (sym (tokens-renamed bytes u))
