-- What the tests on a type say, by the words that stand there.
use Prim.Native.Nat.{ℕ, zero, suc, ◌+◌, ◌≤◌, ◌<◌}
use mathlib.Core.Path.{◌≡◌, refl, ap, sym, ◌∙◌}
use mathlib.Core.Bool.{Bool, true, false}
use mathlib.Core.List.{List, [], ◌∷◌, map}
use native.Mathlib.Omega.{arith}
use borrow.Author.Tests.{ne_eqb}
use lib.Dec.{eqb}
use lib.ListN.{length, get_or, take, drop, length-take, length-drop, length-map}
use Rattle.rast.specs.Bytes.{Bytes, ascii, same}
use Rattle.rast.proofs.BytesLaws.{and-false}
use Rattle.rast.specs.Tree.{Path, Self, PMemberSelect, MSels, Ty, Primitive, TIdentifier, TypeFromPath, TypeApp, Borrowed, BorrowedMut, ImplType, DynType, TupleType, FnType, IntersectionType, Array, TSynonym, TMetaData}
use Rattle.rast.specs.DeclarationToString.{Expand, is_self_path, is_self_owned, is_self_borrowed, is_self_borrowed_mut, is_underscore}
use Rattle.encoding.specs.declared.PathAt.{PathAt}
use Rattle.encoding.specs.declared.Refusal.{Refusal}
use Rattle.encoding.specs.Refusals.{pick}
use Rattle.encoding.specs.Tables.{fixed_names, name_bytes, name_count}
use Rattle.encoding.specs.Reading.{Reading, got, stop, read_below}
use Rattle.encoding.specs.Heads.{head_after}
use Rattle.encoding.specs.HeadWords.{InsidePath}
use Rattle.encoding.specs.Types.{root_of, path_of, read_node, read_type, type_at}
use Rattle.encoding.proofs.Tables.{impossible, same-eq}
use Rattle.encoding.proofs.Heads.{head_at}
use Rattle.encoding.proofs.Types.{type-end}
use Rattle.encoding.proofs.TypeKinds.{kind, type-kind}
use Rattle.accepted_types.proofs.Accepted.{name-type, path-there, path-type}
use Rattle.unwrap.specs.Asked.{Judges, ExpandsAt}
use Rattle.unwrap.proofs.Expanding.{expand-bare}
use Rattle.unwrap.proofs.TypesIn.{ref-of, mut_of}
use Rattle.text_formal.specs.declared.Receiver.{Receiver}
use Rattle.text_formal.specs.declared.Receiver.TheVariants.{ByValue, ByRef, ByMut, Typed}
use Rattle.text_formal.specs.Receivers.{receiver_of, is_receiver, NoReceiver, BorrowKind, shared, mutable, is_self_borrowed_as, Tells}

-- ---- a type of another kind

other-kind : (t : Ty Bytes) → ((kind t ≡ 12 → ⊥) → is_underscore t ≡ false) × ((kind t ≡ 13 → ⊥) → is_self_owned t ≡ false) × ((kind t ≡ 15 → ⊥) → is_self_borrowed t ≡ false) × ((kind t ≡ 16 → ⊥) → is_self_borrowed_mut t ≡ false)
unfolding is_underscore is_self_owned is_self_borrowed is_self_borrowed_mut
other-kind (Primitive p) = (λ h. refl, λ h. refl, λ h. refl, λ h. refl)
other-kind (TIdentifier x) = (λ h. absurd (h refl), λ h. refl, λ h. refl, λ h. refl)
other-kind (TypeFromPath p) = (λ h. refl, λ h. absurd (h refl), λ h. refl, λ h. refl)
other-kind (TypeApp b ts) = (λ h. refl, λ h. refl, λ h. refl, λ h. refl)
other-kind (Borrowed t) = (λ h. refl, λ h. refl, λ h. absurd (h refl), λ h. refl)
other-kind (BorrowedMut t) = (λ h. refl, λ h. refl, λ h. refl, λ h. absurd (h refl))
other-kind (ImplType t) = (λ h. refl, λ h. refl, λ h. refl, λ h. refl)
other-kind (DynType t) = (λ h. refl, λ h. refl, λ h. refl, λ h. refl)
other-kind (TupleType ts) = (λ h. refl, λ h. refl, λ h. refl, λ h. refl)
other-kind (FnType ts t) = (λ h. refl, λ h. refl, λ h. refl, λ h. refl)
other-kind (IntersectionType l r) = (λ h. refl, λ h. refl, λ h. refl, λ h. refl)
other-kind (Array t s) = (λ h. refl, λ h. refl, λ h. refl, λ h. refl)
other-kind (TSynonym d b) = (λ h. refl, λ h. refl, λ h. refl, λ h. refl)
other-kind (TMetaData d c o) = (λ h. refl, λ h. refl, λ h. refl, λ h. refl)

borrowed-other : {k : ℕ} → BorrowKind k → (t : Ty Bytes) → (kind t ≡ k → ⊥) → is_self_borrowed_as k t ≡ false
borrowed-other shared t h = (other-kind t).2 h
borrowed-other mutable t h = (other-kind t).3 h

leaf-other : (b : Bytes) (t : Ty Bytes) → kind t < 13 → is_receiver b t ≡ false
unfolding is_receiver
leaf-other b t h =
    let e = expand-bare t (λ k. omega arith) (λ k. omega arith) in
    let owned = (other-kind t).1 (λ k. omega arith) in
    let borrowed = (other-kind t).2 (λ k. omega arith) in
    let mutably = (other-kind t).3 (λ k. omega arith) in
    rw (e, owned, borrowed, mutably) (and-false (same b (ascii "self")))

-- ---- a path that is `Self`: no other root, and no names

longer-path : {N : Type 0} (p : Path N) (xs : List N) → is_self_path p ≡ false → is_self_path (MSels p xs) ≡ false
unfolding MSels is_self_path
longer-path p [] h = h
longer-path p (x ∷ xs) h = longer-path (PMemberSelect p x) xs refl

other-root : (N : Type 0) (r : ℕ) → r < 3 → (r ≡ 2 → ⊥) → is_self_path {N = N} (root_of r) ≡ false
unfolding root_of is_self_path
other-root N zero h k = refl
other-root N (suc zero) h k = refl
other-root N (suc (suc zero)) h k = absurd (k refl)
other-root N (suc (suc (suc r))) h k = absurd (let z : ⊥ = omega arith in z)

self-names : {N : Type 0} (xs : List N) → is_self_path (MSels Self xs) ≡ eqb (length xs) 0
unfolding MSels is_self_path
self-names [] = refl
self-names (x ∷ xs) = longer-path (PMemberSelect Self x) xs refl ∙ sym (ne_eqb (suc (length xs)) 0 (omega arith))

other_path : {N : Type 0} (bound : ℕ) (ws : List ℕ) (name : ℕ → N) (p : PathAt) → InsidePath bound ws p → (p.root ≡ 2 → ⊥) → is_self_path (path_of ws name p) ≡ false
unfolding path_of
other_path {N} bound ws name p i k = longer-path (root_of p.root) (map name (take p.count (drop p.start ws))) (other-root N p.root i.root k)

self-path : {N : Type 0} (bound : ℕ) (ws : List ℕ) (name : ℕ → N) (p : PathAt) → InsidePath bound ws p → p.root ≡ 2 → is_self_path (path_of ws name p) ≡ eqb p.count 0
unfolding path_of root_of
self-path bound ws name p i k =
    let l : length (map name (take p.count (drop p.start ws))) ≡ p.count = simp (length-map, length-take, length-drop) (omega (arith, i.inside)) in
    rw k (self-names (map name (take p.count (drop p.start ws))) ∙ ap (λ (n : ℕ). eqb n 0) l)

-- ---- by the words

module _ (ws pairs : List ℕ) (text : Bytes) (at : ℕ) where
  abbrev x : Reading (Ty Bytes)
  x = type_at ws pairs text at

  pub not-path : (get_or ws at 0 ≡ 13 → ⊥) → Judges is_self_owned x false
  not-path h = record { says = λ t n e. sym ((other-kind t).1 (λ k. h (sym (type-kind ws pairs text at e) ∙ k))) }

  pub not-self : get_or ws at 0 ≡ 13 → (get_or ws (at + 1) 0 ≡ 2 → ⊥) → Judges is_self_owned x false
  unfolding is_self_owned
  not-self h k = record {
    says = λ t n e.
        let d = path-type ws pairs text at e h in
        sym (ap is_self_owned d.type ∙ other_path (name_count pairs) ws (name_bytes pairs text) (path-there ws pairs text at e) d.own k);
  }

  pub names-of-self : get_or ws at 0 ≡ 13 → get_or ws (at + 1) 0 ≡ 2 → Judges is_self_owned x (eqb (get_or ws (at + 2) 0) 0)
  unfolding is_self_owned
  names-of-self h k = record {
    says = λ t n e.
        let d = path-type ws pairs text at e h in
        sym (ap is_self_owned d.type ∙ self-path (name_count pairs) ws (name_bytes pairs text) (path-there ws pairs text at e) d.own k);
  }

  -- ---- a borrow of `Self`

  pub not-borrowed : {k : ℕ} → BorrowKind k → (get_or ws at 0 ≡ k → ⊥) → Judges (is_self_borrowed_as k) x false
  not-borrowed b h = record { says = λ t n e. sym (borrowed-other b t (λ i. h (sym (type-kind ws pairs text at e) ∙ i))) }

  -- t borrows the type that stands behind the kind, and the question goes on to that one
  pub record BorrowOf (k : ℕ) (t : Ty Bytes) (n : ℕ) : Type 0 where
    pub value : Ty Bytes
    pub reads : type_at ws pairs text (at + 1) ≡ got value n
    pub asks : is_self_owned value ≡ is_self_borrowed_as k t

  pub borrow-of : {k : ℕ} → BorrowKind k → {t : Ty Bytes} {n : ℕ} → x ≡ got t n → get_or ws at 0 ≡ k → BorrowOf k t n
  unfolding is_self_borrowed is_self_borrowed_mut
  borrow-of shared e h =
      let m = ref-of ws pairs text at e h in record { value = m.value; reads = m.reads; asks = ap is_self_borrowed (sym m.made) }
  borrow-of mutable e h =
      let m = mut_of ws pairs text at e h in record { value = m.value; reads = m.reads; asks = ap is_self_borrowed_mut (sym m.made) }

  pub self-borrowed : {k : ℕ} {r : Bool} → BorrowKind k → get_or ws at 0 ≡ k → Judges is_self_owned (type_at ws pairs text (at + 1)) r → Judges (is_self_borrowed_as k) x r
  self-borrowed b h j = record { says = λ t n e. let m = borrow-of b e h in j.says m.value n m.reads ∙ m.asks }

  -- ---- a plain type or a name, which make no receiver

  pub leaf_type : (b : Bytes) → get_or ws at 0 < 13 → NoReceiver b x
  leaf_type b h = record { says = λ t n e. leaf-other b t (omega (arith, type-kind ws pairs text at e)) }

  pub no-type : (b : Bytes) → length ws ≤ at → NoReceiver b x
  no-type b h = record { says = λ t n e. let s = type-end ws pairs text at h in impossible (cc) }

  -- ---- the type `_`

  tells_none : {r : Refusal} → x ≡ stop r → Tells x at false
  tells_none e = record { says = λ t n d. impossible (cc); there = λ d. impossible (cc) }

  pub tells-behind : length ws ≤ at → Tells x at false
  tells-behind h = tells_none (type-end ws pairs text at h)

  pub tells-other : (get_or ws at 0 ≡ 12 → ⊥) → Tells x at false
  tells-other h = record {
    says = λ t n e. sym ((other-kind t).0 (λ k. h (sym (type-kind ws pairs text at e) ∙ k)));
    there = λ d. impossible (cc);
  }

  pub tells-no-name : at < length ws → get_or ws at 0 ≡ 12 → {r : Refusal} → read_below (name_count pairs) ws (at + 1) ≡ stop r → Tells x at false
  unfolding read_type head_after
  tells-no-name h k {r} e = tells_none {r = r} (rw (head_at (name_count pairs) ws at h, k, e))

  pub tells-name : at < length ws → get_or ws at 0 ≡ 12 → {w n : ℕ} {r : Bool} → read_below (name_count pairs) ws (at + 1) ≡ got w n
      → r ≡ same (name_bytes pairs text w) (get_or fixed_names 14 []) → Tells x at r
  unfolding read_type head_after read_node is_underscore fixed_names
  tells-name h k {w} {n} {r} e d =
      let i : x ≡ got (TIdentifier (name_bytes pairs text w)) n = rw (head_at (name_count pairs) ws at h, k, e) in
      let o = (name-type ws pairs text at i k).end in
      record {
        says = λ t m u. let s : t ≡ TIdentifier (name_bytes pairs text w) = cc in rw s d;
        there = λ u.
            let s : name_bytes pairs text w ≡ ascii "_" = same-eq (name_bytes pairs text w) (ascii "_") (sym d ∙ u) in
            i ∙ cc;
      }

-- ---- the cases in their order

module _ {A : Type 0} {x : Reading (Ty Bytes)} (f : Ty Bytes → Bool) (g : Ty Bytes → A) where
  judge-yes : (u : A) {a : Bool} → Judges f x a → a ≡ true → Judges (λ t. pick (f t) u (g t)) x u
  judge-yes u j k = record { says = λ t n e. let y : f t ≡ true = sym (j.says t n e) ∙ k in rw y }

  judge-no : (u : A) {a : Bool} {r : A} → Judges f x a → a ≡ false → Judges g x r → Judges (λ t. pick (f t) u (g t)) x r
  judge-no u j k m = record { says = λ t n e. let y : f t ≡ false = sym (j.says t n e) ∙ k in rw y (m.says t n e) }

abbrev pub expands_to_self : Ty Bytes → Bool
expands_to_self t = is_self_owned (Expand t)

pub judge-expanded : (again : ℕ → Reading (Ty Bytes)) {at r : ℕ} {a : Bool} → ExpandsAt again at r → Judges is_self_owned (again r) a → Judges expands_to_self (again at) a
judge-expanded again d j = record { says = λ t n e. j.says (Expand t) n (d.expands t n e) }

module _ {x : Reading (Ty Bytes)} {a : Bool} (j : Judges expands_to_self x a) where
  pub by_value : a ≡ true → Judges receiver_of x ByValue
  by_value h = judge-yes expands_to_self _ ByValue j h

  module _ {b : Bool} (h : a ≡ false) (k : Judges is_self_borrowed x b) where
    pub by-ref : b ≡ true → Judges receiver_of x ByRef
    by-ref i = judge-no expands_to_self _ ByValue j h (judge-yes is_self_borrowed _ ByRef k i)

    module _ {c : Bool} (i : b ≡ false) (l : Judges is_self_borrowed_mut x c) where
      pub by-mut : c ≡ true → Judges receiver_of x ByMut
      by-mut m = judge-no expands_to_self _ ByValue j h (judge-no is_self_borrowed _ ByRef k i (judge-yes is_self_borrowed_mut _ ByMut l m))

      -- the last test
      by_last : {r : Receiver} → c ≡ false → Judges (λ t. pick (is_underscore t) ByValue Typed) x r → Judges receiver_of x r
      by_last m o = judge-no expands_to_self _ ByValue j h (judge-no is_self_borrowed _ ByRef k i (judge-no is_self_borrowed_mut _ ByMut l m o))

      module _ {at : ℕ} {d : Bool} (m : c ≡ false) (o : Tells x at d) where
        judge-underscore : Judges is_underscore x d
        judge-underscore = record { says = o.says }

        pub by-underscore : d ≡ true → Judges receiver_of x ByValue
        by-underscore p = by_last m (judge-yes is_underscore _ ByValue judge-underscore p)

        pub with-type : d ≡ false → Judges receiver_of x Typed
        with-type p = by_last m (judge-no is_underscore _ ByValue judge-underscore p (record { says = λ t n e. refl }))
