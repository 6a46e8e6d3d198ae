-- A type that was read stands in the words by its own encoding.
use Prim.Native.Nat.{ℕ, zero, suc, ◌+◌, ◌-◌, ◌%◌, ◌≤◌, ◌<◌}
use mathlib.Core.Path.{◌≡◌, refl, ap, sym, ◌∙◌, subst}
use mathlib.Core.Bool.{Bool, true, false}
use mathlib.Core.List.{List, [], ◌∷◌, ◌++◌, map, append-nil, append_assoc, map-append, map-id}
use native.Mathlib.Omega.{arith}
use borrow.Author.Tests.{ltb-true, ne_eqb}
use lib.Dec.{ltb, eqb, leb}
use lib.ListN.{length, get_or, take, drop, length-append}
use Rattle.rast.specs.Bytes.{◌and◌}
use Rattle.rast.specs.Tree.{Path, Global, Crate, Self, PMemberSelect, MSels, U8, Ty, Tys, TypeFromPath, nil, cons, count}
use Rattle.encoding.specs.declared.PathAt.{PathAt}
use Rattle.encoding.specs.declared.Head.{Head}
use Rattle.encoding.specs.declared.Head.TheVariants.{Plain, Name, FromPath, Apply, Ref, RefMut, Impl, Dyn, Tuple, Function, Both, ArrayOf, Synonym, Meta}
use Rattle.encoding.specs.Refusals.{pick}
use Rattle.encoding.specs.Reading.{Reading, got, ◌>>=◌, read_word, read_below}
use Rattle.encoding.specs.Heads.{read_path, path_head, head_after, read_head}
use Rattle.encoding.specs.HeadWords.{head_kind, kids}
use Rattle.encoding.specs.Types.{primitives, root_of, path_of, size_of, read_types, read_type}
use Rattle.encoding.proofs.Tables.{impossible, every_below, every-equal}
use Rattle.encoding.proofs.Inside.{Holds, holds_on, holds-pick, There, Next, word_holds, below_holds, path-by, head-lies, head-begins, head-behind}
use Rattle.encoding.proofs.TypeKinds.{head-kind}
use Rattle.encoding.proofs.Types.{bind-got, made₂-got, snoc, types-count, count-snoc}
use Rattle.tree_words.specs.Encode.{name, size, token_word, primitive_word, flags_word, root_word, names, path_tokens, tokens, tokens_all, encode}
use Rattle.tree_words.specs.Tokens.{encode_all}
use Rattle.tree_words.proofs.Nodes.{Node, plain, ident, path, apply, ref, ref_mut, impl, dyn, tuple, function, both, array, synonym, meta, node-below}
use Rattle.tree_words.specs.Runs.{Run}
use Rattle.tree_words.proofs.Runs.{run_none, run-one, run-two, run-part, run_join}

-- ---- what stands behind a kind

pub next-there : {b : ℕ} {ws : List ℕ} {p x q : ℕ} → Next b ws p x q → There ws p x q
next-there h = record { here = h.here; next = h.next; same = h.same }

-- a path's words stand at p
record PathWords (ws : List ℕ) (p : ℕ) (x : PathAt) (q : ℕ) : Type 0 where
  root : x.root ≡ get_or ws p 0
  known : x.root < 3
  count : x.count ≡ get_or ws (p + 1) 0
  start : x.start ≡ p + 2
  end : q ≡ p + 2 + x.count
  inside : p + 2 + x.count ≤ length ws

path-there : (b : ℕ) (ws : List ℕ) (p : ℕ) → Holds (PathWords ws p) (read_path b ws p)
path-there b ws p = path-by (PathWords ws p) b ws p λ root q n r u s h k m. record {
  root = h.same;
  known = h.below;
  count = k.same ∙ ap (λ i. get_or ws i 0) h.next;
  start = omega (arith, h.next, k.next);
  end = omega (arith, h.next, k.next, m.end);
  inside = omega (arith, h.next, k.next, m.inside);
}

-- what a head says of the words from p on, which stand behind its kind
abbrev Own : List ℕ → ℕ → Head → ℕ → Type 0
Own ws p (Plain w) q = (q ≡ p) × (w < 12)
Own ws p (Name x) q = There ws p x q
Own ws p (FromPath x) q = PathWords ws p x q
Own ws p (Apply n) q = There ws p n q
Own ws p Ref q = q ≡ p
Own ws p RefMut q = q ≡ p
Own ws p Impl q = q ≡ p
Own ws p Dyn q = q ≡ p
Own ws p (Tuple n) q = There ws p n q
Own ws p (Function n) q = There ws p n q
Own ws p Both q = q ≡ p
Own ws p (ArrayOf s) q = There ws p s q
Own ws p Synonym q = q ≡ p
Own ws p (Meta x) q = Next 4 ws p x q

after-own : (b : ℕ) (ws : List ℕ) (w p : ℕ) → Holds (Own ws p) (head_after b ws w p)
unfolding head_after path_head
after-own b ws w p =
    holds-pick (Own ws p) (ltb w 12) _ _ (λ t. (refl, ltb-true w 12 t))
    (holds-pick (Own ws p) (eqb w 12) _ _ (λ t. name b Name (λ x q h. next-there h))
    (holds-pick (Own ws p) (eqb w 13) _ _ (λ t. holds_on (PathWords ws p) (Own ws p) (read_path b ws p) _ (path-there b ws p) (λ x q h. h))
    (holds-pick (Own ws p) (eqb w 14) _ _ (λ t. word Apply (λ x q h. h))
    (holds-pick (Own ws p) (eqb w 15) _ _ (λ t. refl)
    (holds-pick (Own ws p) (eqb w 16) _ _ (λ t. refl)
    (holds-pick (Own ws p) (eqb w 17) _ _ (λ t. refl)
    (holds-pick (Own ws p) (eqb w 18) _ _ (λ t. refl)
    (holds-pick (Own ws p) (eqb w 19) _ _ (λ t. word Tuple (λ x q h. h))
    (holds-pick (Own ws p) (eqb w 20) _ _ (λ t. word Function (λ x q h. h))
    (holds-pick (Own ws p) (eqb w 21) _ _ (λ t. refl)
    (holds-pick (Own ws p) (eqb w 22) _ _ (λ t. name (b + 1) ArrayOf (λ x q h. next-there h))
    (holds-pick (Own ws p) (eqb w 23) _ _ (λ t. refl)
    (holds-pick (Own ws p) (eqb w 24) _ _ (λ t. name 4 Meta (λ x q h. h))
    tt)))))))))))))
  where
    word : (f : ℕ → Head) → ((x q : ℕ) → There ws p x q → Own ws p (f x) q) → Holds (Own ws p) (read_word ws p >>= λ x q. got (f x) q)
    word f k = holds_on (There ws p) (Own ws p) (read_word ws p) _ (word_holds ws p) k

    name : (c : ℕ) (f : ℕ → Head) → ((x q : ℕ) → Next c ws p x q → Own ws p (f x) q) → Holds (Own ws p) (read_below c ws p >>= λ x q. got (f x) q)
    name c f k = holds_on (Next c ws p) (Own ws p) (read_below c ws p) _ (below_holds c ws p) k

-- ---- own words are encoded as they stand

primitive-word : (w : ℕ) → w < 12 → primitive_word (get_or primitives w U8) ≡ w
unfolding every_below ◌and◌ primitives primitive_word
primitive-word w h = every-equal (λ i. primitive_word (get_or primitives i U8)) (λ i. i) 12 refl w h

flags-word : (x : ℕ) → x < 4 → flags_word (eqb (x % 2) 1) (leb 2 x) ≡ x
unfolding every_below ◌and◌ flags_word
flags-word x h = every-equal (λ i. flags_word (eqb (i % 2) 1) (leb 2 i)) (λ i. i) 4 refl x h

size_word : (s : ℕ) → token_word (size (size_of (λ x. x) s)) ≡ s
unfolding size_of token_word
size_word zero = refl
size_word (suc s) = let z : suc s - 1 ≡ s = omega arith in rw (ne_eqb (suc s) 0 (λ e. omega (arith, e)), z) refl

pub root-known : (N : Type 0) (r : ℕ) → r < 3 → root_word {N = N} (root_of r) ≡ r
unfolding every_below ◌and◌ root_word root_of
root-known N r h = every-equal (λ i. root_word {N = N} (root_of i)) (λ i. i) 3 refl r h

root-nameless : {N : Type 0} (r : ℕ) → names {N = N} (root_of r) ≡ []
unfolding root_of names
root-nameless {N} r = go (eqb r 0) (eqb r 1)
  where
    go : (a b : Bool) → names {N = N} (pick a Global (pick b Crate Self)) ≡ []
    go true b = refl
    go false true = refl
    go false false = refl

select-root : {N : Type 0} (p : Path N) (xs : List N) → root_word (MSels p xs) ≡ root_word p
unfolding MSels root_word
select-root p [] = refl
select-root p (x ∷ xs) = select-root (PMemberSelect p x) xs

select-names : {N : Type 0} (p : Path N) (xs : List N) → names (MSels p xs) ≡ names p ++ xs
unfolding MSels names
select-names p [] = sym (append-nil (names p))
select-names p (x ∷ xs) = select-names (PMemberSelect p x) xs ∙ append_assoc (names p) (x ∷ []) xs

-- the names and the root of a path that stands there
pub path_names : {N : Type 0} (ws : List ℕ) (nm : ℕ → N) (x : PathAt) → names (path_of ws nm x) ≡ map nm (take x.count (drop x.start ws))
unfolding path_of
path_names {N} ws nm x = select-names (root_of x.root) (map nm (take x.count (drop x.start ws))) ∙ rw (root-nameless {N = N} x.root)

pub path-root : {N : Type 0} (ws : List ℕ) (nm : ℕ → N) (x : PathAt) → root_word (path_of ws nm x) ≡ root_word {N = N} (root_of x.root)
unfolding path_of
path-root ws nm x = select-root (root_of x.root) (map nm (take x.count (drop x.start ws)))

pub name-words : (xs : List ℕ) → map token_word (map name xs) ≡ xs
unfolding token_word
name-words [] = refl
name-words (x ∷ xs) = ap (λ l. x ∷ l) (name-words xs)

-- what f reads at a position stands there by its encoding, and ends behind it
abbrev pub Stands : {A : Type 0} → (A → List ℕ) → List ℕ → (ℕ → Reading A) → Type 0
Stands {A} code ws f = (p : ℕ) (a : A) (n : ℕ) → p ≤ length ws → f p ≡ got a n → Run ws p (code a) × (n ≡ p + length (code a))

path-run : (ws : List ℕ) (p : ℕ) (x : PathAt) (q : ℕ) → PathWords ws p x q
    → Run ws p (map token_word (path_tokens (path_of ws (λ i. i) x))) × (q ≡ p + length (map token_word (path_tokens (path_of ws (λ i. i) x))))
unfolding path_tokens token_word
path-run ws p x q w =
    let xs = take x.count (drop x.start ws) in
    let l = run-part ws x.start x.count (omega (arith, w.inside, w.start)) in
    let m : names (path_of ws (λ i. i) x) ≡ xs = path_names ws (λ i. i) x ∙ map-id xs in
    let t : Run ws p (x.root ∷ x.count ∷ []) = rw (w.root, w.count) (run-two ws p (omega (arith, w.inside))) in
    rw (m, path-root ws (λ i. i) x, root-known ℕ x.root w.known, name-words xs, l.0)
    (run_join (x.root ∷ x.count ∷ []) xs t (omega (arith, w.start)) l.1, omega (arith, w.end))

-- a path that was read stands there
pub path-stands : (b : ℕ) (ws : List ℕ) → Stands (λ x. map token_word (path_tokens (path_of ws (λ i. i) x))) ws (read_path b ws)
path-stands b ws p x q l e = path-run ws p x q (subst (Holds (PathWords ws p)) e (path-there b ws p))

-- ---- a head's type

pub encode-cons : (t : Ty ℕ) (ts : Tys ℕ) → encode_all (cons t ts) ≡ encode t ++ encode_all ts
unfolding encode encode_all tokens_all
encode-cons t ts = map-append token_word (tokens t) (tokens_all ts)

encode_snoc : (ts : Tys ℕ) (t : Ty ℕ) → encode_all (snoc ts t) ≡ encode_all ts ++ encode t
unfolding snoc encode encode_all tokens_all
encode_snoc nil t = ap (map token_word) (append-nil (tokens t))
encode_snoc (cons u us) t =
    encode-cons u (snoc us t) ∙ ap (λ l. encode u ++ l) (encode_snoc us t) ∙ sym (append_assoc (encode u) (encode_all us) (encode t))
    ∙ ap (λ l. l ++ encode t) (sym (encode-cons u us))

-- a head's own words, and the encodings of the types below it
pub record Spelled (ws : List ℕ) (at q : ℕ) (ts : Tys ℕ) (t : Ty ℕ) : Type 0 where
  pub own : List ℕ
  pub run : Run ws at own
  pub end : q ≡ at + length own
  pub spells : encode t ≡ own ++ encode_all ts

module _ (ws : List ℕ) (at : ℕ) where
  -- no own words but the kind
  bare : (k q : ℕ) (ts : Tys ℕ) (t : Ty ℕ) → at < length ws → k ≡ get_or ws at 0 → q ≡ at + 1 → encode t ≡ k ∷ encode_all ts → Spelled ws at q ts t
  bare k q ts t h e d s = record { own = get_or ws at 0 ∷ []; run = run-one ws at h; end = d; spells = s ∙ ap (λ i. i ∷ encode_all ts) e }

  -- one own word
  worded : (k x q : ℕ) (ts : Tys ℕ) (t : Ty ℕ) → k ≡ get_or ws at 0 → There ws (at + 1) x q → encode t ≡ k ∷ x ∷ encode_all ts → Spelled ws at q ts t
  worded k x q ts t e w s = record {
    own = get_or ws at 0 ∷ get_or ws (at + 1) 0 ∷ [];
    run = run-two ws at w.here;
    end = omega (arith, w.next);
    spells = s ∙ rw (e, w.same) refl;
  }

  pathed : (x : PathAt) (q : ℕ) → 13 ≡ get_or ws at 0 → PathWords ws (at + 1) x q → Spelled ws at q nil (TypeFromPath (path_of ws (λ i. i) x))
  unfolding encode tokens tokens_all encode_all token_word
  pathed x q e w =
      let code = map token_word (path_tokens (path_of ws (λ i. i) x)) in
      let r = path-run ws (at + 1) x q w in
      record {
        own = get_or ws at 0 ∷ code;
        run = run_join (get_or ws at 0 ∷ []) code (run-one ws at (omega (arith, w.inside))) refl r.0;
        end = omega (arith, r.1);
        spells = ap (λ k. k ∷ code) e ∙ sym (append-nil (get_or ws at 0 ∷ code));
      }

  own-spells : (h : Head) (q : ℕ) {ts : Tys ℕ} {t : Ty ℕ} → at < length ws → head_kind h ≡ get_or ws at 0 → Own ws (at + 1) h q → Node ws (λ x. x) h ts t → count ts ≡ kids h
      → Spelled ws at q ts t
  unfolding encode encode_all tokens tokens_all token_word count
  own-spells (Plain w) q h e o (plain i) k = bare w q nil _ h e o.0 (ap (λ i. i ∷ []) (primitive-word w o.1))
  own-spells (Name x) q h e o (ident i) k = worded 12 x q nil _ e o refl
  own-spells (FromPath x) q h e o (path i) k = pathed x q e o
  own-spells (Apply n) q h e o (apply i b ts) k =
      worded 14 n q (cons b ts) _ e o (rw (let z : count ts ≡ n = omega (arith, k) in z) refl)
  own-spells Ref q h e o (ref t) k = bare 15 q (cons t nil) _ h e o (ap (λ l. 15 ∷ l) (sym (ap (map token_word) (append-nil (tokens t)))))
  own-spells RefMut q h e o (ref_mut t) k = bare 16 q (cons t nil) _ h e o (ap (λ l. 16 ∷ l) (sym (ap (map token_word) (append-nil (tokens t)))))
  own-spells Impl q h e o (impl t) k = bare 17 q (cons t nil) _ h e o (ap (λ l. 17 ∷ l) (sym (ap (map token_word) (append-nil (tokens t)))))
  own-spells Dyn q h e o (dyn t) k = bare 18 q (cons t nil) _ h e o (ap (λ l. 18 ∷ l) (sym (ap (map token_word) (append-nil (tokens t)))))
  own-spells (Tuple n) q h e o (tuple i ts) k = worded 19 n q ts _ e o (rw k refl)
  own-spells (Function n) q h e o (function i ts t) k =
      worded 20 n q (snoc ts t) _ e o (rw (let z : count ts ≡ n = omega (arith, k, count-snoc ts t) in z) (ap (λ l. 20 ∷ n ∷ l) (map-append token_word (tokens_all ts) (tokens t) ∙ sym (encode_snoc ts t))))
  own-spells Both q h e o (both l r) k = bare 21 q (cons l (cons r nil)) _ h e o (ap (λ x. 21 ∷ map token_word (tokens l ++ x)) (sym (append-nil (tokens r))))
  own-spells (ArrayOf s) q h e o (array i t) k =
      worded 22 s q (cons t nil) _ e o (rw (size_word s) (ap (λ l. 22 ∷ s ∷ l) (sym (ap (map token_word) (append-nil (tokens t))))))
  own-spells Synonym q h e o (synonym d b) k = bare 23 q (cons d (cons b nil)) _ h e o (ap (λ x. 23 ∷ map token_word (tokens d ++ x)) (sym (append-nil (tokens b))))
  own-spells (Meta x) q h e o (meta i d) k =
      worded 24 x q (cons d nil) _ e (next-there o) (rw (flags-word x o.below) (ap (λ l. 24 ∷ x ∷ l) (sym (ap (map token_word) (append-nil (tokens d))))))

-- ---- whole types

pub types-stand : (ws : List ℕ) (f : ℕ → Reading (Ty ℕ)) → Stands encode ws f → (k : ℕ) → Stands encode_all ws (read_types f k)
unfolding read_types encode_all tokens_all
types-stand ws f h zero p ts n l e = let i : ts ≡ nil = cc in let j : p ≡ n = cc in rw (i, j) (run_none ws n (rw j at l), omega arith)
types-stand ws f h (suc k) p ts n l e =
    let m = made₂-got (f p) (read_types f k) cons e in
    let a = h p m.left m.middle l m.reads in
    let b = types-stand ws f h k m.middle m.right n (omega (arith, a.1, a.0.ends)) m.reads₂ in
    let c = encode-cons m.left m.right in
    let g : ts ≡ cons m.left m.right = m.made in
    finish ts (cons m.left m.right) n g (rw c (run_join (encode m.left) (encode_all m.right) a.0 a.1 b.0))
    (omega (arith, a.1, b.1, ap length c, length-append (encode m.left) (encode_all m.right)))
  where
    finish : (ts us : Tys ℕ) (n : ℕ) → ts ≡ us → Run ws p (encode_all us) → n ≡ p + length (encode_all us) → Run ws p (encode_all ts) × (n ≡ p + length (encode_all ts))
    finish ts us n g r d = rw g (r, d)

pub type-stands : (b : ℕ) (ws : List ℕ) (deep : ℕ) → Stands encode ws (read_type b ws (λ x. x) deep)
unfolding read_type
type-stands b ws zero p t n l e = impossible (cc)
type-stands b ws (suc deep) p t n l e =
    let f = read_type b ws (λ x. x) deep in
    let d = bind-got (read_head b ws p) _ e in
    let k = head-lies b ws p d.first in
    let m = node-below ws (λ x. x) f d.value d.end d.rest in
    let s = own-spells ws p d.value d.end (head-begins b ws p d.first) (head-kind b ws p d.first)
    (subst (Holds (Own ws (p + 1))) (head-behind b ws p d.first) (after-own b ws (get_or ws p 0) (p + 1))) m.node (types-count f (kids d.value) d.end m.reads) in
    let c = types-stand ws f (type-stands b ws deep) (kids d.value) d.end m.types n k.ends m.reads in
    (rw s.spells (run_join s.own (encode_all m.types) s.run s.end c.0), omega (arith, s.end, c.1, ap length s.spells, length-append s.own (encode_all m.types)))

-- a type is encoded by its head's own words and the encodings of the types below it
pub node-spells : (b : ℕ) (ws : List ℕ) (at : ℕ) {h : Head} {q : ℕ} {ts : Tys ℕ} {t : Ty ℕ} → read_head b ws at ≡ got h q → Node ws (λ x. x) h ts t → count ts ≡ kids h
    → encode t ≡ take (q - at) (drop at ws) ++ encode_all ts
node-spells b ws at {h} {q} {ts} {t} e k c =
    let s = own-spells ws at h q (head-begins b ws at e) (head-kind b ws at e) (subst (Holds (Own ws (at + 1))) (head-behind b ws at e) (after-own b ws (get_or ws at 0) (at + 1))) k c in
    let z : q - at ≡ length s.own = omega (arith, s.end) in
    let y : take (q - at) (drop at ws) ≡ s.own = rw z s.run.words in
    s.spells ∙ ap (λ l. l ++ encode_all ts) (sym y)
