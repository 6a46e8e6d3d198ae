-- Where the parts of an accepted type stand.
use Rattle.std.specs.Prelude.{Option, Some, None}
use Rattle.std.proofs.Common.{◌≡◌, ℕ, zero, suc, ◌+◌, Bool, true, false, List, get_or, sym, refl, ap, ◌∙◌, subst}
use Rattle.rast.specs.Bytes.{Bytes}
use Rattle.rast.specs.Tree.{Ty, Tys, Primitive, TIdentifier, TypeFromPath, TypeApp, Borrowed, BorrowedMut, ImplType, DynType, TupleType, FnType, IntersectionType, Array, TSynonym, TMetaData, nil, cons}
use Rattle.encoding.specs.Reading.{Reading, got}
use Rattle.encoding.specs.Types.{read_types, type_at}
use Rattle.encoding.proofs.Tables.{impossible}
use Rattle.encoding.proofs.Types.{Made, made₂-got}
use Rattle.encoding.proofs.TypeKinds.{type-kind}
use Rattle.tree_words.specs.Encode.{words}
use Rattle.tree_words.specs.Places.{Place, place}
use Rattle.tree_words.proofs.Renaming.{type-words}
use Rattle.unwrap.proofs.TypesIn.{ref-of, mut_of, impl_of, dyn-of, synonym-of, meta-of, array_of, apply-of}
use Rattle.known_paths.specs.Steps.{when, and_then, or_else, type_at_index, argument_at, argument_of, dyn_at, dyn_of, element_at, element_of}

-- the type of the place is read where it stands
pub record Standing (ws pairs : List ℕ) (text : Bytes) (p : Place Bytes) : Type 0 where
  pub end : ℕ
  pub reads : type_at ws pairs text p.at ≡ got p.tpe end

-- f leads from a type that stands where it is said to another
pub record Keeps (ws pairs : List ℕ) (text : Bytes) (f : Place Bytes → Option (Place Bytes)) : Type 0 where
  pub keeps : (p q : Place Bytes) → Standing ws pairs text p → f p ≡ Some q → Standing ws pairs text q

pub some_same : {A : Type 0} {a b : A} → Some a ≡ Some b → a ≡ b
some_same e = cc

made-below : {x : Reading (Ty Bytes)} {c : Ty Bytes → Ty Bytes} {t u : Ty Bytes} {n : ℕ} (m : Made x c t n) → m.value ≡ u → x ≡ got u n
made-below {n = n} m i = m.reads ∙ ap (λ v. got v n) i

module _ (ws pairs : List ℕ) (text : Bytes) where
  abbrev again : ℕ → Reading (Ty Bytes)
  again = type_at ws pairs text

  pub stand-here : (p : ℕ) {t : Ty Bytes} {n : ℕ} → again p ≡ got t n → Standing ws pairs text (place p t)
  stand-here p {t} {n} e = record { end = n; reads = e }

  stand-as : {p q : Place Bytes} → p ≡ q → Standing ws pairs text p → Standing ws pairs text q
  stand-as e s = subst (Standing ws pairs text) e s

  -- ---- a type below, by the type above it

  module _ (p : ℕ) {n : ℕ} where
    pub ref-below : {u : Ty Bytes} → again p ≡ got (Borrowed u) n → again (p + 1) ≡ got u n
    ref-below e = let m = ref-of ws pairs text p e (sym (type-kind ws pairs text p e)) in made-below m (cc m.made)

    pub mut-below : {u : Ty Bytes} → again p ≡ got (BorrowedMut u) n → again (p + 1) ≡ got u n
    mut-below e = let m = mut_of ws pairs text p e (sym (type-kind ws pairs text p e)) in made-below m (cc m.made)

    pub impl-below : {u : Ty Bytes} → again p ≡ got (ImplType u) n → again (p + 1) ≡ got u n
    impl-below e = let m = impl_of ws pairs text p e (sym (type-kind ws pairs text p e)) in made-below m (cc m.made)

    pub dyn-below : {u : Ty Bytes} → again p ≡ got (DynType u) n → again (p + 1) ≡ got u n
    dyn-below e = let m = dyn-of ws pairs text p e (sym (type-kind ws pairs text p e)) in made-below m (cc m.made)

    pub display-below : {d b : Ty Bytes} → again p ≡ got (TSynonym d b) n → again (p + 1) ≡ got d (p + 1 + words d)
    display-below {d} {b} e =
        let m = synonym-of ws pairs text p e (sym (type-kind ws pairs text p e)) in
        let i : m.left ≡ d = cc m.made in
        let r : again (p + 1) ≡ got d m.middle = m.reads ∙ ap (λ v. got v m.middle) i in
        r ∙ ap (got d) (type-words ws pairs text (p + 1) r)

    pub base-below : {d b : Ty Bytes} → again p ≡ got (TSynonym d b) n → again (p + 1 + words d) ≡ got b n
    base-below {d} {b} e =
        let m = synonym-of ws pairs text p e (sym (type-kind ws pairs text p e)) in
        let i : m.left ≡ d = cc m.made in
        let j : m.right ≡ b = cc m.made in
        let o : m.middle ≡ p + 1 + words d = type-words ws pairs text (p + 1) (m.reads ∙ ap (λ v. got v m.middle) i) in
        rw (sym o) (m.reads₂ ∙ ap (λ v. got v n) j)

    pub meta-below : {d : Ty Bytes} {c o : Bool} → again p ≡ got (TMetaData d c o) n → again (p + 2) ≡ got d n
    meta-below e = let m = (meta-of ws pairs text p e (sym (type-kind ws pairs text p e))).1 in made-below m (cc m.made)

    pub element-below : {u : Ty Bytes} {s : Option Bytes} → again p ≡ got (Array u s) n → again (p + 2) ≡ got u n
    element-below e = let m = (array_of ws pairs text p e (sym (type-kind ws pairs text p e))).1 in made-below m (cc m.made)

  types-below : (k p : ℕ) (ts : Tys Bytes) (n i : ℕ) (q : Place Bytes) → read_types again k p ≡ got ts n → type_at_index i p ts ≡ Some q → Standing ws pairs text q
  unfolding read_types type_at_index
  types-below zero p ts n i q e d = let z : ts ≡ nil = cc in none-there ts z d
    where
      none-there : (us : Tys Bytes) → us ≡ nil → type_at_index i p us ≡ Some q → Standing ws pairs text q
      none-there nil z d = impossible (cc)
      none-there (cons u us) z d = impossible (cc)
  types-below (suc k) p nil n i q e d = impossible (cc)
  types-below (suc k) p (cons t ts) n zero q e d =
      let m = made₂-got (again p) (read_types again k) cons e in
      let j : m.left ≡ t = cc m.made in
      stand-as (some_same d) (stand-here p (m.reads ∙ ap (λ v. got v m.middle) j))
  types-below (suc k) p (cons t ts) n (suc i) q e d =
      let m = made₂-got (again p) (read_types again k) cons e in
      let j : m.left ≡ t = cc m.made in
      let l : m.right ≡ ts = cc m.made in
      let o : m.middle ≡ p + words t = type-words ws pairs text p (m.reads ∙ ap (λ v. got v m.middle) j) in
      types-below k (p + words t) ts n i q (rw (sym o) (m.reads₂ ∙ ap (λ v. got v n) l)) d

  pub arguments-below : (p : ℕ) {n : ℕ} {b : Ty Bytes} {ts : Tys Bytes} → again p ≡ got (TypeApp b ts) n
      → (again (p + 2) ≡ got b (p + 2 + words b)) × (read_types again (get_or ws (p + 1) 0) (p + 2 + words b) ≡ got ts n)
  arguments-below p {n} {b} {ts} e =
      let m = (apply-of ws pairs text p e (sym (type-kind ws pairs text p e))).1 in
      let i : m.left ≡ b = cc m.made in
      let j : m.right ≡ ts = cc m.made in
      let r : again (p + 2) ≡ got b m.middle = m.reads ∙ ap (λ v. got v m.middle) i in
      let o : m.middle ≡ p + 2 + words b = type-words ws pairs text (p + 2) r in
      (r ∙ ap (got b) o, rw (sym o) (m.reads₂ ∙ ap (λ v. got v n) j))

  argument-stands : (i p : ℕ) (t : Ty Bytes) (n : ℕ) (q : Place Bytes) → again p ≡ got t n → argument_at i p t ≡ Some q → Standing ws pairs text q
  unfolding argument_at
  argument-stands i p (Primitive x) n q e d = impossible (cc)
  argument-stands i p (TIdentifier x) n q e d = impossible (cc)
  argument-stands i p (TypeFromPath x) n q e d = impossible (cc)
  argument-stands i p (TypeApp b ts) n q e d = types-below (get_or ws (p + 1) 0) (p + 2 + words b) ts n i q (arguments-below p e).1 d
  argument-stands i p (Borrowed t) n q e d = impossible (cc)
  argument-stands i p (BorrowedMut t) n q e d = impossible (cc)
  argument-stands i p (ImplType t) n q e d = impossible (cc)
  argument-stands i p (DynType t) n q e d = impossible (cc)
  argument-stands i p (TupleType ts) n q e d = impossible (cc)
  argument-stands i p (FnType ts t) n q e d = impossible (cc)
  argument-stands i p (IntersectionType l r) n q e d = impossible (cc)
  argument-stands i p (Array t s) n q e d = impossible (cc)
  argument-stands i p (TSynonym a b) n q e d = impossible (cc)
  argument-stands i p (TMetaData a c o) n q e d = impossible (cc)

  pub argument-keeps : (i : ℕ) → Keeps ws pairs text (argument_of i)
  unfolding argument_of
  argument-keeps i = record { keeps = λ p q s e. argument-stands i p.at p.tpe s.end q s.reads e }

  dyn-stands : (p : ℕ) (t : Ty Bytes) (n : ℕ) (q : Place Bytes) → again p ≡ got t n → dyn_at p t ≡ Some q → Standing ws pairs text q
  unfolding dyn_at
  dyn-stands p (Primitive x) n q e d = impossible (cc)
  dyn-stands p (TIdentifier x) n q e d = impossible (cc)
  dyn-stands p (TypeFromPath x) n q e d = impossible (cc)
  dyn-stands p (TypeApp b ts) n q e d = impossible (cc)
  dyn-stands p (Borrowed t) n q e d = impossible (cc)
  dyn-stands p (BorrowedMut t) n q e d = impossible (cc)
  dyn-stands p (ImplType t) n q e d = impossible (cc)
  dyn-stands p (DynType t) n q e d = stand-as (some_same d) (stand-here (p + 1) (dyn-below p e))
  dyn-stands p (TupleType ts) n q e d = impossible (cc)
  dyn-stands p (FnType ts t) n q e d = impossible (cc)
  dyn-stands p (IntersectionType l r) n q e d = impossible (cc)
  dyn-stands p (Array t s) n q e d = impossible (cc)
  dyn-stands p (TSynonym a b) n q e d = impossible (cc)
  dyn-stands p (TMetaData a c o) n q e d = impossible (cc)

  pub dyn-keeps : Keeps ws pairs text dyn_of
  unfolding dyn_of
  dyn-keeps = record { keeps = λ p q s e. dyn-stands p.at p.tpe s.end q s.reads e }

  element-stands : (p : ℕ) (t : Ty Bytes) (n : ℕ) (q : Place Bytes) → again p ≡ got t n → element_at p t ≡ Some q → Standing ws pairs text q
  unfolding element_at
  element-stands p (Primitive x) n q e d = impossible (cc)
  element-stands p (TIdentifier x) n q e d = impossible (cc)
  element-stands p (TypeFromPath x) n q e d = impossible (cc)
  element-stands p (TypeApp b ts) n q e d = impossible (cc)
  element-stands p (Borrowed t) n q e d = impossible (cc)
  element-stands p (BorrowedMut t) n q e d = impossible (cc)
  element-stands p (ImplType t) n q e d = impossible (cc)
  element-stands p (DynType t) n q e d = impossible (cc)
  element-stands p (TupleType ts) n q e d = impossible (cc)
  element-stands p (FnType ts t) n q e d = impossible (cc)
  element-stands p (IntersectionType l r) n q e d = impossible (cc)
  element-stands p (Array t s) n q e d = stand-as (some_same d) (stand-here (p + 2) (element-below p e))
  element-stands p (TSynonym a b) n q e d = impossible (cc)
  element-stands p (TMetaData a c o) n q e d = impossible (cc)

  pub element-keeps : Keeps ws pairs text element_of
  unfolding element_of
  element-keeps = record { keeps = λ p q s e. element-stands p.at p.tpe s.end q s.reads e }

  -- ---- compositions

  pub when-keeps : (b : Bool) (x : Option (Place Bytes)) (q : Place Bytes) → (x ≡ Some q → Standing ws pairs text q) → when b x ≡ Some q → Standing ws pairs text q
  unfolding when
  when-keeps true x q h e = h e
  when-keeps false x q h e = impossible (cc)

  pub then_keeps : (x : Option (Place Bytes)) (f : Place Bytes → Option (Place Bytes)) (q : Place Bytes) → ((p : Place Bytes) → x ≡ Some p → Standing ws pairs text p) → Keeps ws pairs text f
      → and_then x f ≡ Some q → Standing ws pairs text q
  unfolding and_then
  then_keeps None f q h k e = impossible (cc)
  then_keeps (Some p) f q h k e = k.keeps p q (h p refl) e

  pub else-keeps : (x y : Option (Place Bytes)) (q : Place Bytes) → (x ≡ Some q → Standing ws pairs text q) → (y ≡ Some q → Standing ws pairs text q) → or_else x y ≡ Some q → Standing ws pairs text q
  unfolding or_else
  else-keeps None y q h k e = k e
  else-keeps (Some p) y q h k e = h e
