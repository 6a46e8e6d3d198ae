-- What the source ensures of its parts: `RemoveSynonyms` gives the type itself or a part of it, and `RcUnderlying` and
-- `BoxDynUnderlying` a part of it (`t < this`). A part of a type has fewer words, and they lie among the type's own.
use Rattle.std.specs.Prelude.{Option, Some, None}
use Prim.Native.Nat.{ℕ, zero, suc, ◌+◌, ◌≤◌, ◌<◌}
use mathlib.Core.Path.{◌≡◌, refl, ap, sym, ◌∙◌, subst}
use mathlib.Core.Bool.{false}
use mathlib.Core.Logic.{◌⊎◌, inl, inr}
use native.Mathlib.Omega.{arith}
use lib.ListN.{length-append}
use Rattle.rast.specs.Bytes.{Bytes}
use Rattle.rast.specs.Tree.{Ty, Tys, Primitive, TIdentifier, TypeFromPath, TypeApp, Borrowed, BorrowedMut, ImplType, DynType, TupleType, FnType, IntersectionType, Array, TSynonym, TMetaData, nil, cons}
use Rattle.rast.specs.DeclarationToString.{Expand}
use Rattle.rast.proofs.SourceEquations.{is_wrapper, expand-opens}
use Rattle.encoding.proofs.Tables.{impossible}
use Rattle.tree_words.specs.Encode.{tokens, tokens_all, words, words_all}
use Rattle.tree_words.specs.Places.{Place, place}
use Rattle.tree_words.proofs.Nodes.{words-cons}
use Rattle.known_paths.specs.Steps.{and_then, type_at_index, argument_at, argument_of, dyn_at, dyn_of}
use Rattle.shapes.specs.Parts.{removed_at, expanded_at, RemoveSynonyms, ExpandAt, RcUnderlying, BoxDynUnderlying, expanded}
use Rattle.shapes.specs.Shapes.{IsRc, IsBoxDyn}
use Rattle.known_paths.proofs.Children.{some_same}
use Rattle.shapes.proofs.Pointers.{expanded-tree}
use Rattle.shapes.proofs.Collections.{when-some}
use Rattle.unwrap.proofs.Expanding.{synonym-words, meta-words}

-- q is a part of p, and not p itself
pub record PartOf (q p : Place Bytes) : Type 0 where
  pub starts : p.at < q.at
  pub ends : q.at + words q.tpe ≤ p.at + words p.tpe

pub part-fewer : {q p : Place Bytes} → PartOf q p → words q.tpe < words p.tpe
part-fewer s = omega (arith, s.starts, s.ends)

part-as : {q r p : Place Bytes} → q ≡ r → PartOf q p → PartOf r p
part-as {q} {r} {p} e s = subst (λ x. PartOf x p) e s

part_in : {r q p : Place Bytes} → PartOf r q → PartOf q p → PartOf r p
part_in s t = record { starts = omega (arith, s.starts, t.starts); ends = omega (arith, s.ends, t.ends) }

-- ---- arguments

apply-words : (b : Ty Bytes) (ts : Tys Bytes) → words (TypeApp b ts) ≡ 2 + words b + words_all ts
unfolding words_all words tokens
apply-words b ts = omega (arith, length-append (tokens b) (tokens_all ts))

dyn-words : (t : Ty Bytes) → words (DynType t) ≡ 1 + words t
unfolding words tokens
dyn-words t = omega arith

index-inside : (i p : ℕ) (ts : Tys Bytes) (q : Place Bytes) → type_at_index i p ts ≡ Some q → (p ≤ q.at) × (q.at + words q.tpe ≤ p + words_all ts)
unfolding type_at_index
index-inside i p nil q e = impossible (cc)
index-inside zero p (cons t ts) q e =
    let d : place p t ≡ q = some_same e in
    let i : p ≡ q.at = ap (λ (r : Place Bytes). r.at) d in
    let j : words t ≡ words q.tpe = ap (λ (r : Place Bytes). words r.tpe) d in
    (omega (arith, i), omega (arith, i, j, words-cons t ts))
index-inside (suc i) p (cons t ts) q e =
    let k = index-inside i (p + words t) ts q e in
    (omega (arith, k.0), omega (arith, k.1, words-cons t ts))

argument-part : (i p : ℕ) (t : Ty Bytes) (q : Place Bytes) → argument_at i p t ≡ Some q → PartOf q (place p t)
unfolding argument_at
argument-part i p (Primitive x) q e = impossible (cc)
argument-part i p (TIdentifier x) q e = impossible (cc)
argument-part i p (TypeFromPath x) q e = impossible (cc)
argument-part i p (TypeApp b ts) q e =
    let k = index-inside i (p + 2 + words b) ts q e in
    record { starts = omega (arith, k.0); ends = omega (arith, k.1, apply-words b ts) }
argument-part i p (Borrowed t) q e = impossible (cc)
argument-part i p (BorrowedMut t) q e = impossible (cc)
argument-part i p (ImplType t) q e = impossible (cc)
argument-part i p (DynType t) q e = impossible (cc)
argument-part i p (TupleType ts) q e = impossible (cc)
argument-part i p (FnType ts t) q e = impossible (cc)
argument-part i p (IntersectionType l r) q e = impossible (cc)
argument-part i p (Array t s) q e = impossible (cc)
argument-part i p (TSynonym d b) q e = impossible (cc)
argument-part i p (TMetaData d c o) q e = impossible (cc)

dyn-part : (p : ℕ) (t : Ty Bytes) (q : Place Bytes) → dyn_at p t ≡ Some q → PartOf q (place p t)
unfolding dyn_at
dyn-part p (Primitive x) q e = impossible (cc)
dyn-part p (TIdentifier x) q e = impossible (cc)
dyn-part p (TypeFromPath x) q e = impossible (cc)
dyn-part p (TypeApp b ts) q e = impossible (cc)
dyn-part p (Borrowed t) q e = impossible (cc)
dyn-part p (BorrowedMut t) q e = impossible (cc)
dyn-part p (ImplType t) q e = impossible (cc)
dyn-part p (DynType t) q e = part-as (some_same e) (record { starts = omega arith; ends = omega (arith, dyn-words t) })
dyn-part p (TupleType ts) q e = impossible (cc)
dyn-part p (FnType ts t) q e = impossible (cc)
dyn-part p (IntersectionType l r) q e = impossible (cc)
dyn-part p (Array t s) q e = impossible (cc)
dyn-part p (TSynonym d b) q e = impossible (cc)
dyn-part p (TMetaData d c o) q e = impossible (cc)

-- `RcUnderlying`: `t < this`
pub rc-underlying-part : (p q : Place Bytes) → RcUnderlying p ≡ Some q → PartOf q p
unfolding RcUnderlying argument_of
rc-underlying-part p q e = argument-part 0 p.at p.tpe q (when-some (IsRc p.tpe) (argument_of 0 p) e).1

then-part : (p q : Place Bytes) (x : Option (Place Bytes)) → ((r : Place Bytes) → x ≡ Some r → PartOf r p) → and_then x dyn_of ≡ Some q → PartOf q p
unfolding and_then dyn_of
then-part p q None h e = impossible (cc)
then-part p q (Some r) h e = part_in (dyn-part r.at r.tpe q e) (h r refl)

-- `BoxDynUnderlying`: `t < this`
pub box-dyn-underlying-part : (p q : Place Bytes) → BoxDynUnderlying p ≡ Some q → PartOf q p
unfolding BoxDynUnderlying argument_of
box-dyn-underlying-part p q e =
    then-part p q (argument_of 0 p) (λ r. argument-part 0 p.at p.tpe r) (when-some (IsBoxDyn p.tpe) (and_then (argument_of 0 p) dyn_of) e).1

-- ---- wrappers

further : (p k : ℕ) (d t : Ty Bytes) (q : Place Bytes) → 0 < k → k + words d ≤ words t → (q ≡ place (p + k) d) ⊎ PartOf q (place (p + k) d) → PartOf q (place p t)
further p k d t q h l (inl e) = part-as (sym e) (record { starts = omega (arith, h); ends = omega (arith, l) })
further p k d t q h l (inr s) = part_in s (record { starts = omega (arith, h); ends = omega (arith, l) })

removed-part : (p : ℕ) (t : Ty Bytes) → (removed_at p t ≡ place p t) ⊎ PartOf (removed_at p t) (place p t)
unfolding removed_at
removed-part p (Primitive x) = inl refl
removed-part p (TIdentifier x) = inl refl
removed-part p (TypeFromPath x) = inl refl
removed-part p (TypeApp b ts) = inl refl
removed-part p (Borrowed t) = inl refl
removed-part p (BorrowedMut t) = inl refl
removed-part p (ImplType t) = inl refl
removed-part p (DynType t) = inl refl
removed-part p (TupleType ts) = inl refl
removed-part p (FnType ts t) = inl refl
removed-part p (IntersectionType l r) = inl refl
removed-part p (Array t s) = inl refl
removed-part p (TSynonym d b) =
    inr (further p 1 d (TSynonym d b) (removed_at (p + 1) d) (omega arith) (omega (arith, synonym-words d b)) (removed-part (p + 1) d))
removed-part p (TMetaData d c o) =
    inr (further p 2 d (TMetaData d c o) (removed_at (p + 2) d) (omega arith) (omega (arith, meta-words d c o)) (removed-part (p + 2) d))

-- `RemoveSynonyms`: `t == this || t < this`
pub remove-synonyms-part : (p q : Place Bytes) → RemoveSynonyms p ≡ Some q → (q ≡ p) ⊎ PartOf q p
unfolding RemoveSynonyms
remove-synonyms-part p q e = subst (λ r. (r ≡ p) ⊎ PartOf r p) (some_same e) (removed-part p.at p.tpe)

-- `Expand`: the tree is `Expand`'s, no wrapper, and a type that is no wrapper stays
pub expand-tree : (p q : Place Bytes) → ExpandAt p ≡ Some q → q.tpe ≡ Expand p.tpe
unfolding ExpandAt expanded
expand-tree p q e = ap (λ (r : Place Bytes). r.tpe) (sym (some_same e)) ∙ expanded-tree p.at p.tpe

pub expand-no-wrapper : (p q : Place Bytes) → ExpandAt p ≡ Some q → is_wrapper q.tpe ≡ false
expand-no-wrapper p q e = ap is_wrapper (expand-tree p q e) ∙ expand-opens p.tpe

expanded-here : (p : ℕ) (t : Ty Bytes) → is_wrapper t ≡ false → expanded_at p t ≡ place p t
unfolding expanded_at is_wrapper
expanded-here p (Primitive x) h = refl
expanded-here p (TIdentifier x) h = refl
expanded-here p (TypeFromPath x) h = refl
expanded-here p (TypeApp b ts) h = refl
expanded-here p (Borrowed t) h = refl
expanded-here p (BorrowedMut t) h = refl
expanded-here p (ImplType t) h = refl
expanded-here p (DynType t) h = refl
expanded-here p (TupleType ts) h = refl
expanded-here p (FnType ts t) h = refl
expanded-here p (IntersectionType l r) h = refl
expanded-here p (Array t s) h = refl
expanded-here p (TSynonym d b) h = impossible (cc)
expanded-here p (TMetaData d c o) h = impossible (cc)

pub expand-stays : (p q : Place Bytes) → is_wrapper p.tpe ≡ false → ExpandAt p ≡ Some q → q ≡ p
unfolding ExpandAt expanded
expand-stays p q h e = sym (some_same e) ∙ expanded-here p.at p.tpe h
