-- Where the encoding of a tree stands, with names in the table and not too deep, that tree is read: the converse of `type-stands`.
use Rattle.std.specs.Prelude.{Option, Some, None, Ok, Err, Result}
use Prim.Native.Nat.{ℕ, zero, suc, ◌+◌, ◌-◌, ◌/◌, ◌%◌, ◌≤◌, ◌<◌}
use mathlib.Core.Path.{◌≡◌, refl, ap, sym, ◌∙◌}
use mathlib.Core.Bool.{Bool, true, false}
use mathlib.Core.List.{List, [], ◌∷◌, ◌++◌, map, map-append, map-id}
use native.Mathlib.Omega.{arith}
use borrow.Author.Tests.{le-ltb, eq-eqb, ne_eqb}
use lib.Dec.{ltb, eqb, leb}
use lib.ListN.{length, get_or, take, drop}
use lib.Seq.{take-length}
use Rattle.rast.specs.Bytes.{Bytes, ◌or◌}
use Rattle.rast.specs.Tree.{Path, Global, Crate, Self, PMemberSelect, MSels, PrimitiveTy, U8, U16, U32, U64, U128, I8, I16, I32, I64, I128, USIZE, Bool·, Ty, Tys, Primitive, TIdentifier, TypeFromPath, TypeApp, Borrowed, BorrowedMut, ImplType, DynType, TupleType, FnType, IntersectionType, Array, TSynonym, TMetaData, nil, cons, count}
use Rattle.encoding.specs.declared.Head.{Head}
use Rattle.encoding.specs.declared.Head.TheVariants.{Name, FromPath, Apply, Tuple, Function, ArrayOf, Meta}
use Rattle.encoding.specs.declared.Refusal.{Refusal}
use Rattle.encoding.specs.declared.Refusal.TheVariants.{Overlong, BadPair}
use Rattle.encoding.specs.Words.{max_words, max_pairs, max_text, max_depth}
use Rattle.encoding.specs.Refusals.{pick, unless}
use Rattle.encoding.specs.Reading.{Reading, got, ◌>>=◌, read_word, read_below, read_names, whole}
use Rattle.encoding.specs.Tables.{overlong, good_pairs, check_tables, name_bytes, name_count}
use Rattle.encoding.specs.Heads.{read_path, path_head, head_after, read_head}
use Rattle.encoding.specs.Types.{primitives, root_of, path_of, size_of, read_types, read_node, read_type, type_at, type_of}
use Rattle.encoding.proofs.Tables.{impossible}
use Rattle.encoding.proofs.Reading.{word_in, below_in, map-got}
use Rattle.encoding.proofs.Heads.{head_at, head_plain}
use Rattle.encoding.proofs.Types.{made_got}
use Rattle.tree_words.specs.Encode.{name, size, token_word, primitive_word, flags_word, root_word, names, path_tokens, tokens, tokens_all, words, encode}
use Rattle.tree_words.specs.Tokens.{encode_all}
use Rattle.tree_words.specs.Depths.{depth, deepest}
use Rattle.tree_words.specs.Names.{NameBelow, NamesBelow}
use Rattle.tree_words.specs.Numbered.{tree_at, tree_of}
use Rattle.tree_words.specs.Renamed.{renamed}
use Rattle.tree_words.specs.Runs.{Run}
use Rattle.tree_words.proofs.Runs.{Spelt, spelt-parts, spelt-first}
use Rattle.tree_words.proofs.Spans.{name-words}
use Rattle.tree_words.proofs.Renaming.{encode-words, spelled}
use Rattle.tree_words.proofs.Names.{each-left, each-right}

-- where a's words stand, f reads a, and ends behind them
abbrev pub Reads : {A : Type 0} → (A → List ℕ) → List ℕ → (ℕ → Reading A) → A → Type 0
Reads code ws f a = (p n : ℕ) → Spelt ws p (code a) n → f p ≡ got a n

-- ---- own words

primitive-back : (p : PrimitiveTy) → (primitive_word p < 12) × (get_or primitives (primitive_word p) U8 ≡ p)
unfolding primitive_word primitives
primitive-back U8 = (omega arith, refl)
primitive-back U16 = (omega arith, refl)
primitive-back U32 = (omega arith, refl)
primitive-back U64 = (omega arith, refl)
primitive-back U128 = (omega arith, refl)
primitive-back I8 = (omega arith, refl)
primitive-back I16 = (omega arith, refl)
primitive-back I32 = (omega arith, refl)
primitive-back I64 = (omega arith, refl)
primitive-back I128 = (omega arith, refl)
primitive-back USIZE = (omega arith, refl)
primitive-back Bool· = (omega arith, refl)

flags-back : (c o : Bool) → (flags_word c o < 4) × (eqb (flags_word c o % 2) 1 ≡ c) × (leb 2 (flags_word c o) ≡ o)
unfolding flags_word
flags-back false false = (omega arith, refl, refl)
flags-back true false = (omega arith, refl, refl)
flags-back false true = (omega arith, refl, refl)
flags-back true true = (omega arith, refl, refl)

size-back : (b : ℕ) (s : Option ℕ) → NameBelow b (size s) → (token_word (size s) < b + 1) × (size_of (λ x. x) (token_word (size s)) ≡ s)
unfolding token_word size_of
size-back b None h = (omega arith, refl)
size-back b (Some x) h = (omega arith, let z : suc x - 1 ≡ x = omega arith in rw (ne_eqb (suc x) 0 (λ e. omega (arith, e)), z) refl)

-- ---- paths

root-back : (p : Path ℕ) → (root_word p < 3) × (MSels (root_of (root_word p)) (names p) ≡ p)
unfolding root_word root_of names MSels
root-back Global = (omega arith, refl)
root-back Crate = (omega arith, refl)
root-back Self = (omega arith, refl)
root-back (PMemberSelect p x) = let h = root-back p in (h.0, select-last (root_of (root_word p)) (names p) x ∙ ap (λ (q : Path ℕ). PMemberSelect q x) h.1)
  where
    select-last : (p : Path ℕ) (xs : List ℕ) (x : ℕ) → MSels p (xs ++ (x ∷ [])) ≡ PMemberSelect (MSels p xs) x
    select-last p [] x = refl
    select-last p (y ∷ ys) x = select-last (PMemberSelect p y) ys x

module _ (ws : List ℕ) where
  -- a word that stands there: any, or one below c
  pub word-back : (x : ℕ) → Reads (λ k. k ∷ []) ws (read_word ws) x
  word-back x p n s = let k = spelt-first x [] s in let m : n ≡ p + 1 = omega (arith, s.1) in word_in ws p k.0 ∙ rw (k.1, m) refl

  pub below-back : (c x : ℕ) → x < c → Reads (λ k. k ∷ []) ws (read_below c ws) x
  below-back c x h p n s =
      let k = spelt-first x [] s in
      let m : n ≡ p + 1 = omega (arith, s.1) in
      below_in c ws p k.0 (omega (arith, k.1)) ∙ rw (k.1, m) refl

module _ (b : ℕ) (ws : List ℕ) where
  names-back : (xs : List ℕ) → NamesBelow b (map name xs) → (p n : ℕ) → Spelt ws p xs n → read_names b ws (length xs) p ≡ got tt n
  unfolding read_names
  names-back [] h p n s = let m : n ≡ p = omega (arith, s.1) in ap (got tt) (sym m)
  names-back (x ∷ xs) h p n s =
      let k = spelt-parts (x ∷ []) xs s in
      rw (below-back ws b x h.0 p (p + 1) k.0) (names-back xs h.1 (p + 1) n k.1)

  -- a path whose words stand there is read, and is that path
  pub path-back : (x : Path ℕ) → NamesBelow b (path_tokens x) → (p n : ℕ) → Spelt ws p (map token_word (path_tokens x)) n
      → (read_path b ws p >>= λ y q. got (path_of ws (λ i. i) y) q) ≡ got x n
  unfolding read_path path_tokens token_word path_of
  path-back x h p n s =
      let xs = names x in
      let k₁ = spelt-parts (root_word x ∷ []) (length xs ∷ map token_word (map name xs)) s in
      let k₂ = spelt-parts (length xs ∷ []) (map token_word (map name xs)) k₁.1 in
      let r = root-back x in
      let v : Spelt ws (p + 1 + 1) xs n = rw (name-words xs) at k₂.1 in
      let w : map (λ i. i) (take (length xs) (drop (p + 1 + 1) ws)) ≡ xs = ap (map (λ i. i)) v.0.words ∙ map-id xs in
      rw (below-back ws 3 (root_word x) r.0 p (p + 1) k₁.0, word-back ws (length xs) (p + 1) (p + 1 + 1) k₂.0, names-back xs h.1.1 (p + 1 + 1) n v, w, r.1) refl

  -- ---- heads

  -- a kind, and what stands behind it
  kind-back : (k : ℕ) (xs : List ℕ) (p n : ℕ) → Spelt ws p (k ∷ xs) n → (read_head b ws p ≡ head_after b ws k (p + 1)) × Spelt ws (p + 1) xs n
  kind-back k xs p n s = let w = spelt-first k xs s in (head_at b ws p w.0 ∙ ap (λ i. head_after b ws i (p + 1)) w.1, w.2)

  -- a kind with a word of its own, which is read by f
  own-back : (k x : ℕ) (xs : List ℕ) (f : ℕ → Reading ℕ) (h : ℕ → Head) → ((p : ℕ) → head_after b ws k p ≡ (f p >>= λ x q. got (h x) q)) → Reads (λ i. i ∷ []) ws f x → (p n : ℕ) → Spelt ws p (k ∷ x ∷ xs) n
      → (read_head b ws p ≡ got (h x) (p + 2)) × Spelt ws (p + 2) xs n
  own-back k x xs f h e r p n s =
      let w = kind-back k (x ∷ xs) p n s in
      let v = spelt-parts (x ∷ []) xs w.1 in
      let m : p + 1 + 1 ≡ p + 2 = omega arith in
      (w.0 ∙ e (p + 1) ∙ rw (r (p + 1) (p + 1 + 1) v.0, m) refl, rw m at v.1)

  -- ---- types

  abbrev types : ℕ → ℕ → Reading (Ty ℕ)
  types deep = read_type b ws (λ x. x) deep

  -- read as one type within another, and so wherever it is not too deep
  abbrev Back : Ty ℕ → Type 0
  Back t = (deep : ℕ) → depth t ≤ deep → Reads encode ws (types deep) t

  depth-some : (t : Ty ℕ) → 0 < depth t
  unfolding depth
  depth-some (Primitive p) = omega arith
  depth-some (TIdentifier x) = omega arith
  depth-some (TypeFromPath p) = omega arith
  depth-some (TypeApp b ts) = omega arith
  depth-some (Borrowed t) = omega arith
  depth-some (BorrowedMut t) = omega arith
  depth-some (ImplType t) = omega arith
  depth-some (DynType t) = omega arith
  depth-some (TupleType ts) = omega arith
  depth-some (FnType ts t) = omega arith
  depth-some (IntersectionType l r) = omega arith
  depth-some (Array t s) = omega arith
  depth-some (TSynonym d b) = omega arith
  depth-some (TMetaData d c o) = omega arith

  within : (t : Ty ℕ) → ((deep : ℕ) → depth t ≤ suc deep → Reads encode ws (types (suc deep)) t) → Back t
  within t h zero l = impossible (omega (arith, l, depth-some t))
  within t h (suc deep) l = h deep l

  -- a head that was read, and the types behind it
  node-back : (deep p : ℕ) {h : Head} {q : ℕ} {t : Ty ℕ} {n : ℕ} → read_head b ws p ≡ got h q → read_node ws (λ x. x) (types deep) h q ≡ got t n → types (suc deep) p ≡ got t n
  unfolding read_type
  node-back deep p e d = rw e d

  -- one type behind a head, and two
  one-back : (c : Ty ℕ → Ty ℕ) (t : Ty ℕ) (deep : ℕ) → Back t → depth t ≤ deep → (q n : ℕ) → Spelt ws q (encode t) n → (types deep q >>= λ u r. got (c u) r) ≡ got (c t) n
  one-back c t deep h l q n s = rw (h deep l q n s) refl

  two-back : (c : Ty ℕ → Ty ℕ → Ty ℕ) (t u : Ty ℕ) (deep : ℕ) → Back t → Back u → depth t ≤ deep → depth u ≤ deep → (q n : ℕ) → Spelt ws q (encode t ++ encode u) n
      → (types deep q >>= λ x r. types deep r >>= λ y v. got (c x y) v) ≡ got (c t u) n
  two-back c t u deep h i l m q n s =
      let k = spelt-parts (encode t) (encode u) s in
      rw (h deep l q (q + length (encode t)) k.0, i deep m (q + length (encode t)) n k.1) refl

  mutual
    unfolding encode encode_all tokens tokens_all token_word depth deepest read_node read_types head_after path_head count

    pub type-back : (t : Ty ℕ) → NamesBelow b (tokens t) → Back t
    type-back (Primitive x) h = within (Primitive x) λ deep l p n s.
        let k = kind-back (primitive_word x) [] p n s in
        let r = primitive-back x in
        let m : n ≡ p + 1 = omega (arith, s.1) in
        node-back deep p (k.0 ∙ head_plain b ws (primitive_word x) (p + 1) r.0) (rw (r.1, m) refl)
    type-back (TIdentifier x) h = within (TIdentifier x) λ deep l p n s.
        let k = own-back 12 x [] (read_below b ws) Name (λ q. refl) (below-back ws b x h.1.0) p n s in
        let m : n ≡ p + 2 = omega (arith, s.1) in
        node-back deep p k.0 (rw m refl)
    type-back (TypeFromPath x) h = within (TypeFromPath x) λ deep l p n s.
        let k = kind-back 13 (map token_word (path_tokens x)) p n s in
        let m = made_got (read_path b ws (p + 1)) (path_of ws (λ i. i)) (path-back x h.1 (p + 1) n k.1) in
        let e : read_head b ws p ≡ got (FromPath m.value) n = k.0 ∙ ap (λ r. r >>= λ y q. got (FromPath y) q) m.reads in
        node-back deep p e (ap (λ y. got (TypeFromPath y) n) (sym m.made))
    type-back (TypeApp t ts) h = within (TypeApp t ts) λ deep l p n s.
        let k = own-back 14 (count ts) (map token_word (tokens t ++ tokens_all ts)) (read_word ws) Apply (λ q. refl) (word-back ws (count ts)) p n s in
        let v = spelt-parts (encode t) (encode_all ts) (rw (map-append token_word (tokens t) (tokens_all ts)) at k.1) in
        node-back deep p k.0 (rw (
          type-back t (each-left (NameBelow b) (tokens t) (tokens_all ts) h.1.1) deep (omega (arith, l)) (p + 2) (p + 2 + length (encode t)) v.0,
          types-back ts (each-right (NameBelow b) (tokens t) (tokens_all ts) h.1.1) deep (omega (arith, l)) (p + 2 + length (encode t)) n v.1,
        ) refl)
    type-back (Borrowed t) h = within (Borrowed t) λ deep l p n s.
        let k = kind-back 15 (encode t) p n s in
        node-back deep p k.0 (one-back Borrowed t deep (type-back t h.1) (omega (arith, l)) (p + 1) n k.1)
    type-back (BorrowedMut t) h = within (BorrowedMut t) λ deep l p n s.
        let k = kind-back 16 (encode t) p n s in
        node-back deep p k.0 (one-back BorrowedMut t deep (type-back t h.1) (omega (arith, l)) (p + 1) n k.1)
    type-back (ImplType t) h = within (ImplType t) λ deep l p n s.
        let k = kind-back 17 (encode t) p n s in
        node-back deep p k.0 (one-back ImplType t deep (type-back t h.1) (omega (arith, l)) (p + 1) n k.1)
    type-back (DynType t) h = within (DynType t) λ deep l p n s.
        let k = kind-back 18 (encode t) p n s in
        node-back deep p k.0 (one-back DynType t deep (type-back t h.1) (omega (arith, l)) (p + 1) n k.1)
    type-back (TupleType ts) h = within (TupleType ts) λ deep l p n s.
        let k = own-back 19 (count ts) (encode_all ts) (read_word ws) Tuple (λ q. refl) (word-back ws (count ts)) p n s in
        node-back deep p k.0 (rw (types-back ts h.1.1 deep (omega (arith, l)) (p + 2) n k.1) refl)
    type-back (FnType ts t) h = within (FnType ts t) λ deep l p n s.
        let k = own-back 20 (count ts) (map token_word (tokens_all ts ++ tokens t)) (read_word ws) Function (λ q. refl) (word-back ws (count ts)) p n s in
        let v = spelt-parts (encode_all ts) (encode t) (rw (map-append token_word (tokens_all ts) (tokens t)) at k.1) in
        node-back deep p k.0 (rw (
          types-back ts (each-left (NameBelow b) (tokens_all ts) (tokens t) h.1.1) deep (omega (arith, l)) (p + 2) (p + 2 + length (encode_all ts)) v.0,
          type-back t (each-right (NameBelow b) (tokens_all ts) (tokens t) h.1.1) deep (omega (arith, l)) (p + 2 + length (encode_all ts)) n v.1,
        ) refl)
    type-back (IntersectionType l r) h = within (IntersectionType l r) λ deep m p n s.
        let k = kind-back 21 (map token_word (tokens l ++ tokens r)) p n s in
        node-back deep p k.0
        (two-back IntersectionType l r deep (type-back l (each-left (NameBelow b) (tokens l) (tokens r) h.1)) (type-back r (each-right (NameBelow b) (tokens l) (tokens r) h.1)) (omega (arith, m)) (omega (arith, m)) (p + 1) n
        (rw (map-append token_word (tokens l) (tokens r)) at k.1))
    type-back (Array t z) h = within (Array t z) λ deep l p n s.
        let i = size-back b z h.1.0 in
        let k = own-back 22 (token_word (size z)) (encode t) (read_below (b + 1) ws) ArrayOf (λ q. refl) (below-back ws (b + 1) (token_word (size z)) i.0) p n s in
        node-back deep p k.0 (rw i.1 (one-back (λ u. Array u z) t deep (type-back t h.1.1) (omega (arith, l)) (p + 2) n k.1))
    type-back (TSynonym d a) h = within (TSynonym d a) λ deep m p n s.
        let k = kind-back 23 (map token_word (tokens d ++ tokens a)) p n s in
        node-back deep p k.0
        (two-back TSynonym d a deep (type-back d (each-left (NameBelow b) (tokens d) (tokens a) h.1)) (type-back a (each-right (NameBelow b) (tokens d) (tokens a) h.1)) (omega (arith, m)) (omega (arith, m)) (p + 1) n
        (rw (map-append token_word (tokens d) (tokens a)) at k.1))
    type-back (TMetaData d c o) h = within (TMetaData d c o) λ deep l p n s.
        let i = flags-back c o in
        let k = own-back 24 (flags_word c o) (encode d) (read_below 4 ws) Meta (λ q. refl) (below-back ws 4 (flags_word c o) i.0) p n s in
        node-back deep p k.0 (rw (i.1, i.2) (one-back (λ u. TMetaData u c o) d deep (type-back d h.1.1) (omega (arith, l)) (p + 2) n k.1))

    types-back : (ts : Tys ℕ) → NamesBelow b (tokens_all ts) → (deep : ℕ) → deepest ts ≤ deep → (p n : ℕ) → Spelt ws p (encode_all ts) n → read_types (types deep) (count ts) p ≡ got ts n
    types-back nil h deep l p n s = let m : n ≡ p = omega (arith, s.1) in ap (got nil) (sym m)
    types-back (cons t ts) h deep l p n s =
        let v = spelt-parts (encode t) (encode_all ts) (rw (map-append token_word (tokens t) (tokens_all ts)) at s) in
        rw (
          type-back t (each-left (NameBelow b) (tokens t) (tokens_all ts) h) deep (omega (arith, l)) p (p + length (encode t)) v.0,
          types-back ts (each-right (NameBelow b) (tokens t) (tokens_all ts) h) deep (omega (arith, l)) (p + length (encode t)) n v.1,
        ) refl

-- ---- the law

-- a tree's words are read as that tree, and to their end
pub read-back : (b : ℕ) (ws : List ℕ) (at : ℕ) (t : Ty ℕ) (deep : ℕ) → Run ws at (encode t) → NamesBelow b (tokens t) → depth t ≤ deep → read_type b ws (λ x. x) deep at ≡ got t (at + words t)
read-back b ws at t deep r h l = type-back b ws t h deep l at (at + words t) (r, ap (λ k. at + k) (sym (encode-words t)))

-- ---- as an encoding

-- the tables pass with other words, if these are not too many
pub tables-kept : (ws vs pairs : List ℕ) (text : Bytes) → check_tables ws pairs text ≡ Ok tt → length vs ≤ max_words → check_tables vs pairs text ≡ Ok tt
unfolding check_tables overlong
tables-kept ws vs pairs text e h =
    rw (le-ltb max_words (length vs) h) (go (ltb max_words (length ws)) (ltb max_pairs (length pairs / 2)) (ltb max_text (length text)) (good_pairs pairs 0 (length text)) e)
  where
    checked : Bool → Bool → Result (Unit {0}) Refusal
    checked long good = pick long (Err Overlong) (pick good (Ok tt) (Err BadPair))

    go : (x y z g : Bool) → checked (x or y or z) g ≡ Ok tt → checked (false or y or z) g ≡ Ok tt
    go true y z g e = impossible (cc)
    go false y z g e = e

-- what is read to the end of its words is what an encoding of these words holds
pub whole-given : {A : Type 0} (vs pairs : List ℕ) (text : Bytes) (x : Reading A) {a : A} → check_tables vs pairs text ≡ Ok tt → x ≡ got a (length vs) → unless (check_tables vs pairs text) (whole (length vs) x) ≡ Ok a
unfolding unless whole
whole-given vs pairs text x c e = rw (c, e, eq-eqb (length vs) (length vs) refl) refl

pub run-self : (vs : List ℕ) → Run vs 0 vs
run-self vs = record { ends = omega arith; words = take-length vs }

module _ (ws pairs : List ℕ) (text : Bytes) (passed : check_tables ws pairs text ≡ Ok tt) (t : Ty ℕ)
    (known : NamesBelow (name_count pairs) (tokens t)) (shallow : depth t ≤ max_depth) (few : words t ≤ max_words) where
  written-reads : tree_at (encode t) pairs 0 ≡ got t (length (encode t))
  written-reads = read-back (name_count pairs) (encode t) 0 t max_depth (run-self (encode t)) known shallow ∙ ap (got t) (let z : 0 + words t ≡ length (encode t) = omega (arith, encode-words t) in z)

  written-passes : check_tables (encode t) pairs text ≡ Ok tt
  written-passes = tables-kept ws (encode t) pairs text passed (omega (arith, few, encode-words t))

  -- the words of a tree, with the pairs and the text of an encoding that is within the limits, are an encoding that is accepted, and hold the tree
  pub written-tree : tree_of (encode t) pairs text ≡ Ok t
  unfolding tree_of
  written-tree = whole-given (encode t) pairs text (tree_at (encode t) pairs 0) written-passes written-reads

  -- as the calls read it, names by their bytes
  pub written-type : type_of (encode t) pairs text ≡ Ok (renamed (name_bytes pairs text) t)
  unfolding type_of
  written-type =
      whole-given (encode t) pairs text (type_at (encode t) pairs text 0) written-passes (spelled (encode t) pairs text 0 ∙ map-got (renamed (name_bytes pairs text)) written-reads)
