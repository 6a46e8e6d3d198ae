-- Collections: `GetBuiltinCollectionElement` by the classes of sets and of maps.
use Rattle.std.specs.Prelude.{Option, Some, None}
use Prim.Native.Nat.{ℕ, ◌+◌}
use mathlib.Core.Path.{◌≡◌, refl, ap, sym, ◌∙◌}
use mathlib.Core.Bool.{Bool, true, false}
use native.Mathlib.Omega.{arith}
use borrow.Author.Tests.{eqb-true}
use lib.Dec.{eqb}
use Rattle.rast.specs.Bytes.{Bytes, ascii, same, ◌and◌, ◌or◌}
use Rattle.rast.specs.Tree.{Path, Global, Crate, Self, PMemberSelect, Ty, Tys, TypeFromPath, nil, cons, count}
use Rattle.rast.specs.DeclarationToString.{Expand}
use Rattle.rast.proofs.BytesLaws.{and_right, or-true, or-false}
use Rattle.encoding.specs.Refusals.{pick}
use Rattle.encoding.proofs.Tables.{impossible, same-eq}
use Rattle.tree_words.specs.Encode.{words}
use Rattle.tree_words.specs.Places.{Place, place}
use Rattle.known_paths.specs.declared.Class.TheVariants.{Collection, MapClass}
use Rattle.known_paths.specs.Asked.{found, is_found}
use Rattle.known_paths.specs.Classes.{is_set, in_class, arity, is_of, first}
use Rattle.known_paths.specs.Matches.{on_path, applied}
use Rattle.known_paths.specs.Paths.{same_path, dafny_runtime, runtime_member}
use Rattle.known_paths.specs.Steps.{when, type_at_index, argument_at, argument_of}
use Rattle.shapes.specs.Parts.{is_map, GetBuiltinCollectionElement, expanded}
use Rattle.shapes.specs.Shapes.{IsBuiltinCollection}
use Rattle.known_paths.proofs.Applying.{applied-cases, first_found}
use Rattle.known_paths.proofs.Children.{some_same}
use Rattle.shapes.proofs.Pointers.{expanded-tree}

-- no name is that of a set and of a map
no-map : (x : Bytes) → is_set x ≡ true → same x (ascii "Map") ≡ true → ⊥
unfolding is_set same ascii ◌and◌
no-map x s m =
    let e : x ≡ ascii "Map" = same-eq x (ascii "Map") m in
    never (rw e at s)
  where
    never : is_set (ascii "Map") ≡ true → ⊥
    never z = let y : ◌≡◌ {A = ℕ} 0 1 = cc in omega arith

-- the answers about a type: the shape, the two classes, and whether it is a map
record Answers (c s m k : Bool) : Type 0 where
  whole : c ≡ (s or m)
  map : m ≡ true → k ≡ true
  set : s ≡ true → k ≡ false

no-answers : Answers false false false false
no-answers = record { whole = refl; map = λ e. e; set = λ e. refl }

-- by the test of the path's base, the two tests of its name, and the two of the number of arguments
answers_of : (b s m one two : Bool) → (s ≡ true → m ≡ true → ⊥) → Answers (b and ((s and one) or (m and two))) ((b and s) and one) ((b and m) and two) (b and m)
unfolding ◌and◌
answers_of false s m one two h = no-answers
answers_of true false false one two h = no-answers
answers_of true false true one two h = record { whole = refl; map = λ e. refl; set = λ e. impossible (cc) }
answers_of true true true one two h = absurd (h refl refl)
answers_of true true false false two h = record { whole = refl; map = λ e. e; set = λ e. refl }
answers_of true true false true two h = record { whole = refl; map = λ e. e; set = λ e. refl }

abbrev built : Path Bytes → Tys Bytes → Bool
built p ts = runtime_member (λ tpe.
    ((same tpe (ascii "Set") or same tpe (ascii "Sequence") or same tpe (ascii "Multiset")) and eqb (count ts) 1)
    or (same tpe (ascii "Map") and eqb (count ts) 2)) p

member-answers : (p : Path Bytes) (ts : Tys Bytes)
    → Answers (built p ts) (in_class Collection p and eqb (count ts) 1) (in_class MapClass p and eqb (count ts) 2) (runtime_member (λ tpe. same tpe (ascii "Map")) p)
unfolding runtime_member in_class is_set ◌and◌
member-answers Global ts = no-answers
member-answers Crate ts = no-answers
member-answers Self ts = no-answers
member-answers (PMemberSelect q x) ts =
    answers_of (same_path q dafny_runtime) (is_set x) (same x (ascii "Map")) (eqb (count ts) 1) (eqb (count ts) 2) (no-map x)

type-answers : (t : Ty Bytes) → Answers (applied built t) (is_of Collection t) (is_of MapClass t) (is_map t)
unfolding applied on_path is_of is_map arity
type-answers =
    applied-cases (λ t. Answers (applied built t) (is_of Collection t) (is_of MapClass t) (is_map t)) member-answers
    (λ t k. rw (k built, k (λ p ts. in_class Collection p and eqb (count ts) 1), k (λ p ts. in_class MapClass p and eqb (count ts) 2), k (λ p ts. runtime_member (λ tpe. same tpe (ascii "Map")) p)) no-answers)

collection-answers : (t : Ty Bytes) → Answers (IsBuiltinCollection t) (is_of Collection (Expand t)) (is_of MapClass (Expand t)) (is_map (Expand t))
unfolding IsBuiltinCollection
collection-answers t = type-answers (Expand t)

pub collection-is : (t : Ty Bytes) → (is_of Collection (Expand t) or is_of MapClass (Expand t)) ≡ IsBuiltinCollection t
collection-is t = sym (collection-answers t).whole

-- a map's second argument, and else a set's first
picks : {c s m k : Bool} (a b : Option (Place Bytes)) → Answers c s m k → when c (pick k b a) ≡ pick m b (when s a)
unfolding when
picks {c} {s} {m} {k} a b h = go c s m k h.whole h.map h.set
  where
    go : (c s m k : Bool) → c ≡ (s or m) → (m ≡ true → k ≡ true) → (s ≡ true → k ≡ false) → when c (pick k b a) ≡ pick m b (when s a)
    go true true false true w x y = impossible (let z = y refl in cc)
    go true true false false w x y = refl
    go true true true true w x y = impossible (let z = y refl in cc)
    go true true true false w x y = impossible (let z = x refl in cc)
    go true false true true w x y = refl
    go true false true false w x y = impossible (let z = x refl in cc)
    go true false false k w x y = impossible (cc)
    go false true m k w x y = impossible (cc)
    go false false true k w x y = impossible (cc)
    go false false false k w x y = refl

-- `GetBuiltinCollectionElement` of an expanded type
abbrev pub element : Place Bytes → Option (Place Bytes)
element q = pick (is_of MapClass q.tpe) (argument_of 1 q) (first Collection q)

pub collection-first : (p : Place Bytes) → GetBuiltinCollectionElement p ≡ element (expanded p)
unfolding GetBuiltinCollectionElement first expanded
collection-first p =
    picks (argument_of 0 (expanded p)) (argument_of 1 (expanded p)) (collection-answers p.tpe)
    ∙ rw (sym (expanded-tree p.at p.tpe)) refl

-- ---- a map's second argument

second-index : (p : ℕ) (ts : Tys Bytes) (k : ℕ) (a : Ty Bytes) → count ts ≡ 2 → type_at_index 0 p ts ≡ Some (place k a) → found (type_at_index 1 p ts) ≡ Some (k + words a)
unfolding count type_at_index found
second-index p nil k a c e = impossible (let z : ◌≡◌ {A = ℕ} 0 1 = omega (arith, c) in z)
second-index p (cons t nil) k a c e = impossible (let z : ◌≡◌ {A = ℕ} 0 1 = omega (arith, c) in z)
second-index p (cons t (cons u us)) k a c e =
    let d : place p t ≡ place k a = some_same e in
    let i : p ≡ k = ap (λ (q : Place Bytes). q.at) d in
    let j : t ≡ a = ap (λ (q : Place Bytes). q.tpe) d in
    rw (i, j) refl

second-argument : (p : ℕ) (t : Ty Bytes) (k : ℕ) (a : Ty Bytes) → is_of MapClass t ≡ true → argument_at 0 p t ≡ Some (place k a) → found (argument_at 1 p t) ≡ Some (k + words a)
unfolding is_of applied on_path arity argument_at
second-argument p t k a =
    applied-cases (λ u. is_of MapClass u ≡ true → argument_at 0 p u ≡ Some (place k a) → found (argument_at 1 p u) ≡ Some (k + words a))
    (λ q ts c. second-index (p + 2 + words (TypeFromPath q)) ts k a (eqb-true (count ts) 2 (and_right (in_class MapClass q) (eqb (count ts) 2) c)))
    (λ u n c e. let z = n (λ q ts. in_class MapClass q and eqb (count ts) 2) in impossible (cc)) t

pub when-some : {A : Type 0} (b : Bool) (x : Option A) {q : A} → when b x ≡ Some q → (b ≡ true) × (x ≡ Some q)
unfolding when
when-some true x e = (refl, e)
when-some false x e = impossible (cc)

-- the element of a map stands behind its first argument
pub map-element : (q : Place Bytes) (k : ℕ) (a : Ty Bytes) → first MapClass q ≡ Some (place k a) → found (element q) ≡ Some (k + words a)
unfolding first argument_of
map-element q k a e =
    let w = when-some (is_of MapClass q.tpe) (argument_of 0 q) e in
    rw w.0 (second-argument q.at q.tpe k a w.0 w.1)

-- and where there is none, the type is no map
pub no-map-element : (q : Place Bytes) → found (first MapClass q) ≡ None → found (element q) ≡ found (first Collection q)
no-map-element q e =
    let n : is_of MapClass q.tpe ≡ false = sym (first_found MapClass q) ∙ ap is_found e in
    rw n refl

element-found : (q : Place Bytes) → is_found (found (element q)) ≡ (is_of Collection q.tpe or is_of MapClass q.tpe)
unfolding first found
element-found q = go (first MapClass q) refl
  where
    go : (x : Option (Place Bytes)) → first MapClass q ≡ x → is_found (found (element q)) ≡ (is_of Collection q.tpe or is_of MapClass q.tpe)
    go None e =
        let f : found (first MapClass q) ≡ None = ap found e in
        let n : is_of MapClass q.tpe ≡ false = sym (first_found MapClass q) ∙ ap is_found f in
        ap is_found (no-map-element q f) ∙ first_found Collection q ∙ sym (rw n (or-false (is_of Collection q.tpe)))
    go (Some p) e =
        let n : is_of MapClass q.tpe ≡ true = (when-some (is_of MapClass q.tpe) (argument_of 0 q) e).0 in
        ap is_found (map-element q p.at p.tpe e) ∙ sym (rw n (or-true (is_of Collection q.tpe)))

pub collection-found : (p : Place Bytes) → is_found (found (GetBuiltinCollectionElement p)) ≡ IsBuiltinCollection p.tpe
unfolding expanded
collection-found p =
    rw (collection-first p, element-found (expanded p), expanded-tree p.at p.tpe) (collection-is p.tpe)
