-- A path by the words that stand there: equal paths have the same root and as many names.
use Rattle.std.proofs.Common.{◌≡◌, ℕ, suc, ◌+◌, ◌<◌, Bool, true, false, List, [], ◌∷◌, length, get_or, take, sym, refl, ap, ◌∙◌, arith, length-append, length-drop, length-take, drop-cons, le-leb}
use borrow.Author.Tests.{lt-leb, eq-eqb, ne_eqb, eqb-true}
use Rattle.std.specs.Prelude.{nat_eq, nat_le, ◌&&◌}
use Rattle.std.specs.List.{starts_with}
use lib.ListN.{length-map}
use Prim.Native.Nat.compare
use Rattle.rast.specs.Bytes.{Bytes, ascii, same, begins, ◌and◌, among}
use Rattle.rast.specs.Tree.{Path, Global, Crate, Self, PMemberSelect, MSels}
use Rattle.rast.proofs.BytesLaws.{and_left, and_right, and_no, and_yes, and-false, same_self}
use Rattle.encoding.specs.declared.PathAt.{PathAt}
use Rattle.encoding.specs.Tables.{fixed_names, name_bytes, name_count}
use Rattle.encoding.specs.HeadWords.{InsidePath}
use Rattle.encoding.specs.Types.{root_of, path_of}
use Rattle.encoding.proofs.Tables.{impossible, same-eq, every_below, every-at, name-fixed}
use Rattle.encoding.proofs.Names.{every-agree}
use Rattle.tree_words.specs.Encode.{root_word, names}
use Rattle.tree_words.proofs.Spans.{root-known, path_names, path-root}
use Rattle.known_paths.specs.declared.Class.{Class}
use Rattle.known_paths.specs.declared.Class.TheVariants.{Counted, Boxed, Uninit, Placebo, ObjectClass, PtrClass, ArrayClass, Collection, MapClass}
use Rattle.known_paths.specs.Asked.{InRuntime}
use Rattle.known_paths.specs.Classes.{is_set, in_class, member_in, name_count_of}
use Rattle.known_paths.specs.Paths.{same_path, std, in_std, dafny_runtime, in_runtime, runtime_member, RcPath, ArcPath, BoxPath, MaybeUninitPath, MaybePlaceboPath, ObjectPath, PtrPath}

-- ---- equal paths

-- `same_path` is equality
pub path-self : (p : Path Bytes) → same_path p p ≡ true
unfolding same_path ◌and◌
path-self Global = refl
path-self Crate = refl
path-self Self = refl
path-self (PMemberSelect p x) = rw (path-self p, same_self x)

pub path-eq : (p q : Path Bytes) → same_path p q ≡ true → p ≡ q
unfolding same_path
path-eq Global Global e = refl
path-eq Global Crate e = impossible (cc)
path-eq Global Self e = impossible (cc)
path-eq Global (PMemberSelect q y) e = impossible (cc)
path-eq Crate Global e = impossible (cc)
path-eq Crate Crate e = refl
path-eq Crate Self e = impossible (cc)
path-eq Crate (PMemberSelect q y) e = impossible (cc)
path-eq Self Global e = impossible (cc)
path-eq Self Crate e = impossible (cc)
path-eq Self Self e = refl
path-eq Self (PMemberSelect q y) e = impossible (cc)
path-eq (PMemberSelect p x) Global e = impossible (cc)
path-eq (PMemberSelect p x) Crate e = impossible (cc)
path-eq (PMemberSelect p x) Self e = impossible (cc)
path-eq (PMemberSelect p x) (PMemberSelect q y) e =
    let i : p ≡ q = path-eq p q (and_left (same_path p q) (same x y) e) in
    let j : x ≡ y = same-eq x y (and_right (same_path p q) (same x y) e) in
    rw (i, j)

path-apart : (f : Path Bytes → ℕ) (p q : Path Bytes) → (f p ≡ f q → ⊥) → same_path p q ≡ false
path-apart f p q h = go (same_path p q) (path-eq p q)
  where
    go : (b : Bool) → (b ≡ true → p ≡ q) → b ≡ false
    go true k = absurd (h (ap f (k refl)))
    go false k = refl

-- ---- root and number of names

abbrev count : Path Bytes → ℕ
count q = length (names q)

module _ (bound : ℕ) (ws : List ℕ) (name : ℕ → Bytes) (p : PathAt) (i : InsidePath bound ws p) where
  path-count : count (path_of ws name p) ≡ p.count
  path-count = ap length (path_names ws name p) ∙ simp (length-map, length-take, length-drop) (omega (arith, i.inside))

  root-word : root_word (path_of ws name p) ≡ p.root
  root-word = path-root ws name p ∙ root-known Bytes p.root i.root

  abbrev name_at : ℕ → Bytes
  name_at k = name (get_or ws (p.start + k) 0)

  abbrev first : Bytes
  first = name (get_or ws p.start 0)

  two-names : p.root ≡ 0 → p.count ≡ 2 → path_of ws name p ≡ PMemberSelect (PMemberSelect Global first) (name_at 1)
  unfolding path_of root_of MSels
  two-names r c =
      let k = i.inside in
      let s = p.start in
      let z : s + 1 ≡ suc s = omega arith in
      rw (r, c, drop-cons ws s 0 (omega (arith, k, c)), drop-cons ws (suc s) 0 (omega (arith, k, c)), z) refl

  three-names : p.root ≡ 0 → p.count ≡ 3 → path_of ws name p ≡ PMemberSelect (PMemberSelect (PMemberSelect Global first) (name_at 1)) (name_at 2)
  unfolding path_of root_of MSels
  three-names r c =
      let k = i.inside in
      let s = p.start in
      let z : s + 1 ≡ suc s = omega arith in
      let y : s + 2 ≡ suc (suc s) = omega arith in
      rw (r, c, drop-cons ws s 0 (omega (arith, k, c)), drop-cons ws (suc s) 0 (omega (arith, k, c)), drop-cons ws (suc (suc s)) 0 (omega (arith, k, c)), z, y) refl

  -- ---- members of members of `std`

  module _ (x y : Bytes) where
    pub std-root : (p.root ≡ 0 → ⊥) → same_path (path_of ws name p) (in_std x y) ≡ false
    unfolding in_std std root_word
    std-root h = path-apart root_word (path_of ws name p) (in_std x y) (λ e. h (sym root-word ∙ e))

    pub std-count : (p.count ≡ 3 → ⊥) → same_path (path_of ws name p) (in_std x y) ≡ false
    unfolding in_std std names
    std-count h = path-apart count (path_of ws name p) (in_std x y) (λ e. h (sym path-count ∙ e))

    pub std-names : p.root ≡ 0 → p.count ≡ 3 → same_path (path_of ws name p) (in_std x y) ≡ (same first (ascii "std") and same (name_at 1) x and same (name_at 2) y)
    unfolding in_std std same_path ◌and◌
    std-names r c = rw (three-names r c) refl

  -- ---- members of `dafny_runtime`

  module _ (f : Bytes → Bool) where
    member_apart : (q : Path Bytes) → ((u : Path Bytes) (x : Bytes) → q ≡ PMemberSelect u x → same_path u dafny_runtime ≡ false) → runtime_member f q ≡ false
    unfolding runtime_member
    member_apart Global h = refl
    member_apart Crate h = refl
    member_apart Self h = refl
    member_apart (PMemberSelect u x) h = and_no (f x) (h u x refl)

    member-root : (p.root ≡ 0 → ⊥) → runtime_member f (path_of ws name p) ≡ false
    unfolding dafny_runtime root_word
    member-root h =
        member_apart (path_of ws name p) λ u x e. path-apart root_word u dafny_runtime λ d. h (sym root-word ∙ ap root_word e ∙ d)

    member-count : (p.count ≡ 2 → ⊥) → runtime_member f (path_of ws name p) ≡ false
    unfolding dafny_runtime names
    member-count h =
        member_apart (path_of ws name p) λ u x e. path-apart count u dafny_runtime λ d. h (sym path-count ∙ ap count e ∙ length-append (names u) (x ∷ []) ∙ ap (λ n. n + 1) d)

    member-names : p.root ≡ 0 → p.count ≡ 2 → runtime_member f (path_of ws name p) ≡ (same first (ascii "dafny_runtime") and f (name_at 1))
    unfolding runtime_member dafny_runtime same_path ◌and◌
    member-names r c = rw (two-names r c) refl

module _ (ws pairs : List ℕ) (text : Bytes) (p : PathAt) (i : InsidePath (name_count pairs) ws p) where
  abbrev name : ℕ → Bytes
  name = name_bytes pairs text

  pub runtime-root : (p.root ≡ 0 → ⊥) → InRuntime ws pairs text p false
  unfolding ◌and◌
  runtime-root h = record { two = λ e. impossible (cc); says = λ f. member-root (name_count pairs) ws name p i f h }

  pub runtime-count : (p.count ≡ 2 → ⊥) → InRuntime ws pairs text p false
  unfolding ◌and◌
  runtime-count h = record { two = λ e. impossible (cc); says = λ f. member-count (name_count pairs) ws name p i f h }

  pub runtime-name : {r : Bool} → p.root ≡ 0 → p.count ≡ 2 → r ≡ same (name (get_or ws p.start 0)) (ascii "dafny_runtime") → InRuntime ws pairs text p r
  runtime-name {r} h k e = record { two = λ d. k; says = λ f. rw e (member-names (name_count pairs) ws name p i f h k) }

-- a member of `dafny_runtime`, by its test or by its path
member-same : (x : Bytes) (p : Path Bytes) → same_path p (in_runtime x) ≡ runtime_member (λ y. same y x) p
unfolding same_path in_runtime runtime_member
member-same x Global = refl
member-same x Crate = refl
member-same x Self = refl
member-same x (PMemberSelect q y) = refl

pub class-placebo : (p : Path Bytes) → in_class Placebo p ≡ runtime_member (member_in Placebo) p
unfolding in_class member_in MaybePlaceboPath
class-placebo p = member-same (ascii "MaybePlacebo") p

pub class-object : (p : Path Bytes) → in_class ObjectClass p ≡ runtime_member (member_in ObjectClass) p
unfolding in_class member_in ObjectPath
class-object p = member-same (ascii "Object") p

pub class-pointer : (p : Path Bytes) → in_class PtrClass p ≡ runtime_member (member_in PtrClass) p
unfolding in_class member_in PtrPath
class-pointer p = member-same (ascii "Ptr") p

-- the classes with two names in their paths are those of members of `dafny_runtime`
pub class-member : (class : Class) → name_count_of class ≡ 2 → (p : Path Bytes) → runtime_member (member_in class) p ≡ in_class class p
unfolding in_class member_in name_count_of
class-member Counted o p = impossible (omega (arith, o))
class-member Boxed o p = impossible (omega (arith, o))
class-member Uninit o p = impossible (omega (arith, o))
class-member Placebo o p = sym (class-placebo p)
class-member ObjectClass o p = sym (class-object p)
class-member PtrClass o p = sym (class-pointer p)
class-member ArrayClass o p = refl
class-member Collection o p = refl
class-member MapClass o p = refl

-- a path of more or fewer names than a class asks for
module _ (bound : ℕ) (ws : List ℕ) (name : ℕ → Bytes) (p : PathAt) (i : InsidePath bound ws p) where
  pub class-count : (class : Class) → (p.count ≡ name_count_of class → ⊥) → in_class class (path_of ws name p) ≡ false
  unfolding in_class name_count_of RcPath ArcPath BoxPath MaybeUninitPath
  class-count Counted h = rw (std-count bound ws name p i (ascii "rc") (ascii "Rc") h) (std-count bound ws name p i (ascii "sync") (ascii "Arc") h)
  class-count Boxed h = std-count bound ws name p i (ascii "boxed") (ascii "Box") h
  class-count Uninit h = std-count bound ws name p i (ascii "mem") (ascii "MaybeUninit") h
  class-count Placebo h = class-placebo (path_of ws name p) ∙ member-count bound ws name p i (member_in Placebo) h
  class-count ObjectClass h = class-object (path_of ws name p) ∙ member-count bound ws name p i (member_in ObjectClass) h
  class-count PtrClass h = class-pointer (path_of ws name p) ∙ member-count bound ws name p i (member_in PtrClass) h
  class-count ArrayClass h = member-count bound ws name p i _ h
  class-count Collection h = member-count bound ws name p i _ h
  class-count MapClass h = member-count bound ws name p i _ h

-- ---- names that are not fixed

-- a fixed name has none of the bytes that no fixed name has
pub fixed-other : (pairs : List ℕ) (text : Bytes) (x : ℕ) (bytes : Bytes) → x < 16 → among bytes fixed_names ≡ false → same (name_bytes pairs text x) bytes ≡ false
unfolding every_below ◌and◌ same fixed_names ascii among
fixed-other pairs text x bytes h k = rw (name-fixed pairs text x h) (go (same (get_or fixed_names x []) bytes) (same-eq (get_or fixed_names x []) bytes))
  where
    go : (b : Bool) → (b ≡ true → get_or fixed_names x [] ≡ bytes) → b ≡ false
    go true e =
        let d : among (get_or fixed_names x []) fixed_names ≡ true = every-at (λ j. among (get_or fixed_names j []) fixed_names) 16 refl x h in
        let i = e refl in
        impossible (cc)
    go false e = refl

pub fixed-no-array : (pairs : List ℕ) (text : Bytes) (x : ℕ) → x < 16 → begins (ascii "Array") (name_bytes pairs text x) ≡ false
unfolding every_below ◌and◌ same fixed_names ascii begins
fixed-no-array pairs text x h =
    rw (name-fixed pairs text x h)
    (every-agree (λ j. begins (ascii "Array") (get_or fixed_names j [])) (λ j. false) 16 refl x h)

-- `starts_with` of std
pub begins-starts : (p d : Bytes) → starts_with nat_eq d p ≡ begins p d
unfolding begins same ◌and◌
begins-starts [] d = rw (le-leb 0 (length d) (omega arith))
begins-starts (x ∷ p) [] = rw (lt-leb (suc (length p)) 0 (omega arith))
begins-starts (x ∷ p) (y ∷ d) = go (begins-starts p d) (nat_eq x y) refl
  where
    go : starts_with nat_eq d p ≡ begins p d → (t : Bool) → nat_eq x y ≡ t → (nat_eq x y && starts_with nat_eq d p) ≡ (nat_le (suc (length p)) (suc (length d)) and (nat_eq y x and same (take (length p) d) p))
    go h true e = let i : x ≡ y = eqb-true x y e in rw (e, eq-eqb y x (sym i)) (h ∙ ap (λ (b : Bool). b and same (take (length p) d) p) (sym (rw (compare.suc-suc (length p) (length d)) refl)))
    go h false e = rw (e, ne_eqb y x (λ i. let z : true ≡ false = sym (eq-eqb x y (sym i)) ∙ e in impossible (cc))) (sym (and-false (nat_le (suc (length p)) (suc (length d)))))

-- ---- the tests in their order

module _ (bound : ℕ) (ws : List ℕ) (name : ℕ → Bytes) (p : PathAt) (i : InsidePath bound ws p) (x y : Bytes) (r : p.root ≡ 0) (c : p.count ≡ 3) where
  abbrev whole : Bool
  whole = same_path (path_of ws name p) (in_std x y)

  pub std-no-first : {a : Bool} → a ≡ same (name (get_or ws p.start 0)) (ascii "std") → a ≡ false → false ≡ whole
  unfolding ◌and◌
  std-no-first {a} e k = rw (std-names bound ws name p i x y r c, sym e, k) refl

  pub std-no-second : {a : Bool} → a ≡ same (name (get_or ws (p.start + 1) 0)) x → a ≡ false → false ≡ whole
  unfolding ◌and◌
  std-no-second {a} e k = rw (std-names bound ws name p i x y r c, sym e, k, and-false (same (name (get_or ws p.start 0)) (ascii "std"))) refl

  pub std-last : {a b d : Bool} → a ≡ same (name (get_or ws p.start 0)) (ascii "std") → a ≡ true → b ≡ same (name (get_or ws (p.start + 1) 0)) x → b ≡ true
      → d ≡ same (name (get_or ws (p.start + 2) 0)) y → d ≡ whole
  unfolding ◌and◌
  std-last {a} {b} {d} e k f l g = rw (std-names bound ws name p i x y r c, sym e, k, sym f, l) g

module _ (ws pairs : List ℕ) (text : Bytes) (p : PathAt) {r : Bool} (i : InRuntime ws pairs text p r) (f : Bytes → Bool) where
  pub runtime-no : r ≡ false → false ≡ runtime_member f (path_of ws (name_bytes pairs text) p)
  runtime-no k = sym (i.says f ∙ and_no _ k)

  pub runtime-yes : {b : Bool} → r ≡ true → b ≡ f (name_bytes pairs text (get_or ws (p.start + 1) 0)) → b ≡ runtime_member f (path_of ws (name_bytes pairs text) p)
  runtime-yes k e = e ∙ sym (i.says f ∙ and_yes _ k)

module _ (p : Path Bytes) {a : Bool} (e : a ≡ same_path p RcPath) where
  pub counted-yes : a ≡ true → true ≡ in_class Counted p
  unfolding in_class
  counted-yes k = rw (sym e, k) refl

  pub counted-no : {b : Bool} → a ≡ false → b ≡ same_path p ArcPath → b ≡ in_class Counted p
  unfolding in_class
  counted-no k d = rw (sym e, k) d

module _ (x : Bytes) {a : Bool} (e : a ≡ same x (ascii "Set")) where
  pub set_first : a ≡ true → true ≡ is_set x
  unfolding is_set
  set_first k = rw (sym e, k) refl

  pub set-second : {b : Bool} → a ≡ false → b ≡ same x (ascii "Sequence") → b ≡ true → true ≡ is_set x
  unfolding is_set
  set-second k d l = rw (sym e, k, sym d, l) refl

  pub set-third : {b c : Bool} → a ≡ false → b ≡ same x (ascii "Sequence") → b ≡ false → c ≡ same x (ascii "Multiset") → c ≡ is_set x
  unfolding is_set
  set-third k d l g = rw (sym e, k, sym d, l) g
