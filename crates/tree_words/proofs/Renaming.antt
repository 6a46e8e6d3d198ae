-- Reading with other names is reading and then renaming. A renamed tree has the words of the tree, with the names renamed.
use Rattle.std.specs.Prelude.{Some, None}
use Prim.Native.Nat.{ℕ, zero, suc, ◌+◌, ◌-◌, ◌≤◌, ◌<◌}
use mathlib.Core.Path.{◌≡◌, refl, ap, sym, ◌∙◌}
use mathlib.Core.Bool.{Bool, true, false}
use mathlib.Core.List.{List, [], ◌∷◌, ◌++◌, map, map-append}
use native.Mathlib.Omega.{arith}
use native.Mathlib.Decide.{dec_lt}
use lib.Dec.{eqb}
use lib.ListN.{length, take, drop, length-map, length-append}
use Rattle.rast.specs.Bytes.{Bytes}
use Rattle.rast.specs.Tree.{Path, Global, Crate, Self, PMemberSelect, MSels, Ty, Tys, Primitive, TIdentifier, TypeFromPath, TypeApp, Borrowed, BorrowedMut, ImplType, DynType, TupleType, FnType, IntersectionType, Array, TSynonym, TMetaData, nil, cons, count}
use Rattle.encoding.specs.declared.Head.{Head}
use Rattle.encoding.specs.declared.Head.TheVariants.{Plain, Name, FromPath, Apply, Ref, RefMut, Impl, Dyn, Tuple, Function, Both, ArrayOf, Synonym, Meta}
use Rattle.encoding.specs.declared.PathAt.{PathAt}
use Rattle.encoding.specs.Refusals.{pick}
use Rattle.encoding.specs.Reading.{Reading, got, stop, ◌>>=◌}
use Rattle.encoding.specs.Scans.{map_reading}
use Rattle.encoding.specs.Tables.{name_bytes, name_count}
use Rattle.encoding.specs.Heads.{read_head}
use Rattle.encoding.specs.Types.{root_of, path_of, size_of, read_types, read_node, read_type, type_at}
use Rattle.encoding.proofs.Tables.{impossible}
use Rattle.encoding.proofs.Types.{type-end}
use Rattle.tree_words.specs.Renamed.{renamed_path, renamed_size, renamed, renamed_all}
use Rattle.tree_words.specs.Encode.{Token, word, name, size, token_word, flags_word, root_word, names, path_tokens, tokens, tokens_all, words, words_all, encode}
use Rattle.tree_words.specs.Tokens.{renamed_token, encode_all}
use Rattle.tree_words.specs.Numbered.{tree_at}
use Rattle.tree_words.specs.Runs.{Run}
use Rattle.tree_words.proofs.Spans.{type-stands, encode-cons}

-- names as words, by other names
pub names-renamed : {M N : Type 0} (f : M → N) (xs : List M) → map (renamed_token f) (map name xs) ≡ map name (map f xs)
unfolding renamed_token
names-renamed f [] = refl
names-renamed f (x ∷ xs) = ap (◌∷◌ (name (f x))) (names-renamed f xs)

-- what is read behind x' is what is read behind x, mapped
pub map_on : {A B C D : Type 0} (r : A → B) (s : C → D) (x : Reading A) {x' : Reading B} (k : A → ℕ → Reading C) (k' : B → ℕ → Reading D)
    → x' ≡ map_reading r x → ((a : A) (n : ℕ) → k' (r a) n ≡ map_reading s (k a n)) → (x' >>= k') ≡ map_reading s (x >>= k)
unfolding map_reading
map_on r s (got a n) k k' e h = ap (λ y. y >>= k') e ∙ h a n
map_on r s (stop i) k k' e h = ap (λ y. y >>= k') e

module _ {N M : Type 0} (f : N → M) (g : ℕ → N) where
  select-renamed : (p : Path N) (xs : List ℕ) → MSels (renamed_path f p) (map (λ x. f (g x)) xs) ≡ renamed_path f (MSels p (map g xs))
  unfolding MSels renamed_path
  select-renamed p [] = refl
  select-renamed p (x ∷ xs) = select-renamed (PMemberSelect p (g x)) xs

  root-renamed : (r : ℕ) → root_of r ≡ renamed_path f (root_of r)
  unfolding root_of renamed_path
  root-renamed r = go (eqb r 0) (eqb r 1)
    where
      go : (a b : Bool) → ◌≡◌ {A = Path M} (pick a Global (pick b Crate Self)) (renamed_path f (pick a Global (pick b Crate Self)))
      go true b = refl
      go false true = refl
      go false false = refl

  pub path-renamed : (ws : List ℕ) (p : PathAt) → path_of ws (λ x. f (g x)) p ≡ renamed_path f (path_of ws g p)
  unfolding path_of
  path-renamed ws p =
      let xs = take p.count (drop p.start ws) in
      ap (λ q. MSels q (map (λ x. f (g x)) xs)) (root-renamed p.root) ∙ select-renamed (root_of p.root) xs

  size-renamed : (s : ℕ) → size_of (λ x. f (g x)) s ≡ renamed_size f (size_of g s)
  unfolding size_of renamed_size
  size-renamed s = go (eqb s 0) (s - 1)
    where
      go : (a : Bool) (x : ℕ) → pick a None (Some (f (g x))) ≡ renamed_size f (pick a None (Some (g x)))
      go true x = refl
      go false x = refl

  module _ (again : ℕ → Reading (Ty N)) (again' : ℕ → Reading (Ty M)) (h : (p : ℕ) → again' p ≡ map_reading (renamed f) (again p)) where
    types-renamed : (n p : ℕ) → read_types again' n p ≡ map_reading (renamed_all f) (read_types again n p)
    unfolding read_types map_reading renamed_all
    types-renamed zero p = refl
    types-renamed (suc n) p =
        map_on (renamed f) (renamed_all f) (again p) _ _ (h p) λ t q. map_on (renamed_all f) (renamed_all f) (read_types again n q) _ _ (types-renamed n q) λ ts r. refl

    node-renamed : (ws : List ℕ) (x : Head) (p : ℕ) → read_node ws (λ x. f (g x)) again' x p ≡ map_reading (renamed f) (read_node ws g again x p)
    unfolding read_node map_reading renamed
    node-renamed ws (Plain w) p = refl
    node-renamed ws (Name x) p = refl
    node-renamed ws (FromPath x) p = ap (λ q. got (TypeFromPath q) p) (path-renamed ws x)
    node-renamed ws (Apply n) p = map_on (renamed f) (renamed f) (again p) _ _ (h p) λ b q. map_on (renamed_all f) (renamed f) (read_types again n q) _ _ (types-renamed n q) λ ts r. refl
    node-renamed ws Ref p = map_on (renamed f) (renamed f) (again p) _ _ (h p) λ t q. refl
    node-renamed ws RefMut p = map_on (renamed f) (renamed f) (again p) _ _ (h p) λ t q. refl
    node-renamed ws Impl p = map_on (renamed f) (renamed f) (again p) _ _ (h p) λ t q. refl
    node-renamed ws Dyn p = map_on (renamed f) (renamed f) (again p) _ _ (h p) λ t q. refl
    node-renamed ws (Tuple n) p = map_on (renamed_all f) (renamed f) (read_types again n p) _ _ (types-renamed n p) λ ts q. refl
    node-renamed ws (Function n) p = map_on (renamed_all f) (renamed f) (read_types again n p) _ _ (types-renamed n p) λ ts q. map_on (renamed f) (renamed f) (again q) _ _ (h q) λ t r. refl
    node-renamed ws Both p = map_on (renamed f) (renamed f) (again p) _ _ (h p) λ l q. map_on (renamed f) (renamed f) (again q) _ _ (h q) λ r s. refl
    node-renamed ws (ArrayOf s) p = map_on (renamed f) (renamed f) (again p) _ _ (h p) λ t q. ap (λ x. got (Array (renamed f t) x) q) (size-renamed s)
    node-renamed ws Synonym p = map_on (renamed f) (renamed f) (again p) _ _ (h p) λ d q. map_on (renamed f) (renamed f) (again q) _ _ (h q) λ b r. refl
    node-renamed ws (Meta x) p = map_on (renamed f) (renamed f) (again p) _ _ (h p) λ d q. refl

  pub type-renamed : (b : ℕ) (ws : List ℕ) (deep at : ℕ) → read_type b ws (λ x. f (g x)) deep at ≡ map_reading (renamed f) (read_type b ws g deep at)
  unfolding read_type map_reading
  type-renamed b ws zero at = refl
  type-renamed b ws (suc deep) at = go (read_head b ws at) (type-renamed b ws deep)
    where
      go : (x : Reading Head) → ((p : ℕ) → read_type b ws (λ x. f (g x)) deep p ≡ map_reading (renamed f) (read_type b ws g deep p))
          → (x >>= λ h p. read_node ws (λ x. f (g x)) (read_type b ws (λ x. f (g x)) deep) h p) ≡ map_reading (renamed f) (x >>= λ h p. read_node ws g (read_type b ws g deep) h p)
      go (got h p) ih = node-renamed (read_type b ws g deep) (read_type b ws (λ x. f (g x)) deep) ih ws h p
      go (stop r) ih = refl

-- ---- the words of a tree under other names

module _ {M N : Type 0} (f : M → N) where
  count_kept : (ts : Tys M) → count (renamed_all f ts) ≡ count ts
  unfolding count renamed_all
  count_kept nil = refl
  count_kept (cons t ts) = ap suc (count_kept ts)

  root_kept : (p : Path M) → root_word (renamed_path f p) ≡ root_word p
  unfolding root_word renamed_path
  root_kept Global = refl
  root_kept Crate = refl
  root_kept Self = refl
  root_kept (PMemberSelect p x) = root_kept p

  names-mapped : (p : Path M) → names (renamed_path f p) ≡ map f (names p)
  unfolding names renamed_path
  names-mapped Global = refl
  names-mapped Crate = refl
  names-mapped Self = refl
  names-mapped (PMemberSelect p x) = ap (λ l. l ++ (f x ∷ [])) (names-mapped p) ∙ sym (map-append f (names p) (x ∷ []))

  path-tokens : (p : Path M) → path_tokens (renamed_path f p) ≡ map (renamed_token f) (path_tokens p)
  unfolding path_tokens renamed_token
  path-tokens p =
      let e = names-mapped p in
      let l : length (names (renamed_path f p)) ≡ length (names p) = ap length e ∙ length-map (names p) f in
      rw (root_kept p, l, e) (ap (λ l. word (root_word p) ∷ word (length (names p)) ∷ l) (sym (names-renamed f (names p))))

  two-renamed : {xs ys : List (Token N)} (us vs : List (Token M)) → xs ≡ map (renamed_token f) us → ys ≡ map (renamed_token f) vs → xs ++ ys ≡ map (renamed_token f) (us ++ vs)
  two-renamed us vs e d = rw (e, d) (sym (map-append (renamed_token f) us vs))

  mutual
    unfolding tokens tokens_all renamed renamed_all renamed_token

    pub tokens-renamed : (t : Ty M) → tokens (renamed f t) ≡ map (renamed_token f) (tokens t)
    tokens-renamed (Primitive p) = refl
    tokens-renamed (TIdentifier x) = refl
    tokens-renamed (TypeFromPath p) = ap (λ l. word 13 ∷ l) (path-tokens p)
    tokens-renamed (TypeApp b ts) = rw (count_kept ts) (ap (λ l. word 14 ∷ word (count ts) ∷ l) (two-renamed (tokens b) (tokens_all ts) (tokens-renamed b) (tokens_all-renamed ts)))
    tokens-renamed (Borrowed t) = ap (λ l. word 15 ∷ l) (tokens-renamed t)
    tokens-renamed (BorrowedMut t) = ap (λ l. word 16 ∷ l) (tokens-renamed t)
    tokens-renamed (ImplType t) = ap (λ l. word 17 ∷ l) (tokens-renamed t)
    tokens-renamed (DynType t) = ap (λ l. word 18 ∷ l) (tokens-renamed t)
    tokens-renamed (TupleType ts) = rw (count_kept ts) (ap (λ l. word 19 ∷ word (count ts) ∷ l) (tokens_all-renamed ts))
    tokens-renamed (FnType ts t) = rw (count_kept ts) (ap (λ l. word 20 ∷ word (count ts) ∷ l) (two-renamed (tokens_all ts) (tokens t) (tokens_all-renamed ts) (tokens-renamed t)))
    tokens-renamed (IntersectionType l r) = ap (λ l. word 21 ∷ l) (two-renamed (tokens l) (tokens r) (tokens-renamed l) (tokens-renamed r))
    tokens-renamed (Array t s) = ap (λ l. word 22 ∷ size (renamed_size f s) ∷ l) (tokens-renamed t)
    tokens-renamed (TSynonym d b) = ap (λ l. word 23 ∷ l) (two-renamed (tokens d) (tokens b) (tokens-renamed d) (tokens-renamed b))
    tokens-renamed (TMetaData d c o) = ap (λ l. word 24 ∷ word (flags_word c o) ∷ l) (tokens-renamed d)

    tokens_all-renamed : (ts : Tys M) → tokens_all (renamed_all f ts) ≡ map (renamed_token f) (tokens_all ts)
    tokens_all-renamed nil = refl
    tokens_all-renamed (cons t ts) = two-renamed (tokens t) (tokens_all ts) (tokens-renamed t) (tokens_all-renamed ts)

  -- it takes as many words
  pub words-kept : (t : Ty M) → words (renamed f t) ≡ words t
  unfolding words
  words-kept t = ap length (tokens-renamed t) ∙ length-map (tokens t) (renamed_token f)

-- ---- types of an encoding

pub spelled : (ws pairs : List ℕ) (text : Bytes) (at : ℕ) → type_at ws pairs text at ≡ map_reading (renamed (name_bytes pairs text)) (tree_at ws pairs at)
spelled ws pairs text at = type-renamed (name_bytes pairs text) (λ x. x) (name_count pairs) ws 64 at

-- the tree behind a type that was read
pub record Numbered (ws pairs : List ℕ) (text : Bytes) (at : ℕ) (t : Ty Bytes) (n : ℕ) : Type 0 where
  pub tree : Ty ℕ
  pub reads : tree_at ws pairs at ≡ got tree n
  pub spells : t ≡ renamed (name_bytes pairs text) tree

pub numbered : (ws pairs : List ℕ) (text : Bytes) (at : ℕ) {t : Ty Bytes} {n : ℕ} → type_at ws pairs text at ≡ got t n → Numbered ws pairs text at t n
unfolding map_reading
numbered ws pairs text at {t} {n} e = go (tree_at ws pairs at) refl (sym (spelled ws pairs text at) ∙ e)
  where
    go : (x : Reading (Ty ℕ)) → tree_at ws pairs at ≡ x → map_reading (renamed (name_bytes pairs text)) x ≡ got t n → Numbered ws pairs text at t n
    go (got u m) d k = let i : m ≡ n = cc in record { tree = u; reads = d ∙ ap (got u) i; spells = cc }
    go (stop r) d k = impossible (cc)

pub encode-words : (t : Ty ℕ) → length (encode t) ≡ words t
unfolding encode words
encode-words t = length-map (tokens t) token_word

pub encode-all : (ts : Tys ℕ) → length (encode_all ts) ≡ words_all ts
unfolding encode_all words_all
encode-all ts = length-map (tokens_all ts) token_word

-- a type takes a word at least
pub words-some : {N : Type 0} (t : Ty N) → 0 < words t
unfolding words tokens
words-some (Primitive p) = omega arith
words-some (TIdentifier x) = omega arith
words-some (TypeFromPath p) = omega arith
words-some (TypeApp b ts) = omega arith
words-some (Borrowed t) = omega arith
words-some (BorrowedMut t) = omega arith
words-some (ImplType t) = omega arith
words-some (DynType t) = omega arith
words-some (TupleType ts) = omega arith
words-some (FnType ts t) = omega arith
words-some (IntersectionType l r) = omega arith
words-some (Array t s) = omega arith
words-some (TSynonym d b) = omega arith
words-some (TMetaData d c o) = omega arith

-- each of some types takes a word at least
pub few_words : (ts : Tys ℕ) → count ts ≤ words_all ts
unfolding count
few_words nil = omega arith
few_words (cons t ts) =
    omega (arith, few_words ts, words-some t, encode-all (cons t ts), ap length (encode-cons t ts), length-append (encode t) (encode_all ts), encode-words t, encode-all ts)

-- a type's tree stands in the words by its encoding
pub tree-run : (ws pairs : List ℕ) (at : ℕ) {t : Ty ℕ} {n : ℕ} → at ≤ length ws → tree_at ws pairs at ≡ got t n → Run ws at (encode t) × (n ≡ at + words t)
tree-run ws pairs at {t} {n} l e = let s = type-stands (name_count pairs) ws 64 at t n l e in (s.0, s.1 ∙ ap (λ k. at + k) (encode-words t))

-- a type ends behind as many words as it takes
pub type-words : (ws pairs : List ℕ) (text : Bytes) (at : ℕ) {t : Ty Bytes} {n : ℕ} → type_at ws pairs text at ≡ got t n → n ≡ at + words t
type-words ws pairs text at {t} {n} e =
    let k = numbered ws pairs text at e in
    (tree-run ws pairs at (here (dec_lt (length ws) at)) k.reads).1 ∙ ap (λ w. at + w) (sym (words-kept (name_bytes pairs text) k.tree) ∙ ap words (sym k.spells))
  where
    here : Dec (length ws < at) → at ≤ length ws
    here (yes h) = impossible (let s = type-end ws pairs text at (omega arith) in cc)
    here (no h) = omega arith
