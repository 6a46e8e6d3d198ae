-- Each part: that it stands where it is said, and where the code finds it.
use Rattle.std.specs.Prelude.{Option, Some, None}
use Prim.Native.Nat.{ℕ, ◌+◌}
use mathlib.Core.Path.{◌≡◌, refl, ap, sym, ◌∙◌, subst}
use mathlib.Core.Bool.{Bool, true, false}
use mathlib.Core.List.{List}
use lib.ListN.{get_or}
use Rattle.rast.specs.Bytes.{Bytes}
use Rattle.rast.specs.Tree.{Ty}
use Rattle.rast.specs.DeclarationToString.{Expand}
use Rattle.encoding.specs.Refusals.{pick}
use Rattle.encoding.specs.Reading.{Reading}
use Rattle.encoding.specs.Types.{type_at}
use Rattle.encoding.proofs.TypeKinds.{type-kind}
use Rattle.accepted_types.specs.Accepted.{EndsAt}
use Rattle.tree_words.specs.Encode.{words}
use Rattle.tree_words.specs.Places.{Place, place}
use Rattle.tree_words.proofs.Renaming.{type-words}
use Rattle.unwrap.specs.Asked.{ExpandsAt}
use Rattle.unwrap.proofs.TypesIn.{dyn-of, array_of}
use Rattle.known_paths.specs.declared.Class.TheVariants.{PtrClass, ObjectClass, ArrayClass, Boxed, Uninit, Collection, MapClass}
use Rattle.known_paths.specs.Asked.{Finds, found, is_found}
use Rattle.known_paths.specs.Classes.{is_of, first}
use Rattle.known_paths.specs.Steps.{when, and_then, argument_of, dyn_at, dyn_of, element_of}
use Rattle.shapes.specs.Parts.{removed_at, owned_at, is_map, RemoveSynonyms, ExpandAt, ToOwned, BoxUnderlying, RcUnderlying, BoxDynUnderlying, MaybeUninitTypeUnderlying, ExtractMaybePlacebo, MultiArrayUnderlying, ObjectOrPointerUnderlying, GetBuiltinCollectionElement, uninit_element, ExtractMaybeUninitArrayElement, expanded}
use Rattle.shapes.specs.Shapes.{IsBox, IsRc, IsBoxDyn, IsMaybeUninit, IsMultiArray, IsObjectOrPointer, IsBuiltinCollection}
use Rattle.known_paths.proofs.Applying.{first_found}
use Rattle.known_paths.proofs.Children.{Standing, Keeps, some_same, argument-keeps, dyn-keeps, element-keeps, when-keeps, then_keeps, else-keeps}
use Rattle.known_paths.proofs.Finding.{located, nowhere, argument-kept, first-keeps}
use Rattle.shapes.proofs.Pointers.{multi-array-first, pointed, pointer-first}
use Rattle.shapes.proofs.Collections.{element, collection-first, map-element, no-map-element}
use Rattle.shapes.proofs.Elements.{dyn-other, box-dyn-first, uninit-of-array, uninit-of-other, uninit-of-pointer}
use Rattle.shapes.proofs.Behind.{finds-expanded}
use Rattle.shapes.proofs.Wrappers.{stand-removed, stand-expanded, stand-owned}

-- ---- parts stand where they are said

module _ (ws pairs : List ℕ) (text : Bytes) where
  whole-kept : (f : Place Bytes → Place Bytes) → ((p : Place Bytes) → Standing ws pairs text p → Standing ws pairs text (f p)) → Keeps ws pairs text (λ p. Some (f p))
  whole-kept f h = record { keeps = λ p q s e. subst (Standing ws pairs text) (some_same e) (h p s) }

  -- and behind wrappers
  inner-kept : (b : Place Bytes → Bool) (i : ℕ) → Keeps ws pairs text (λ p. when (b p) (argument_of i (expanded p)))
  inner-kept b i = record {
    keeps = λ p q s. when-keeps ws pairs text (b p) (argument_of i (expanded p)) q ((argument-keeps ws pairs text i).keeps (expanded p) q (stand-expanded ws pairs text s));
  }

  pub removed-keeps : Keeps ws pairs text RemoveSynonyms
  unfolding RemoveSynonyms
  removed-keeps = whole-kept (λ p. removed_at p.at p.tpe) (λ p s. stand-removed ws pairs text s)

  pub expanded_keeps : Keeps ws pairs text ExpandAt
  unfolding ExpandAt
  expanded_keeps = whole-kept expanded (λ p s. stand-expanded ws pairs text s)

  pub owned-keeps : Keeps ws pairs text ToOwned
  unfolding ToOwned
  owned-keeps = whole-kept (λ p. owned_at p.at p.tpe) (λ p s. stand-owned ws pairs text s)

  pub box-keeps : Keeps ws pairs text BoxUnderlying
  unfolding BoxUnderlying
  box-keeps = argument-kept ws pairs text (λ p. IsBox p.tpe) 0

  pub rc-keeps : Keeps ws pairs text RcUnderlying
  unfolding RcUnderlying
  rc-keeps = argument-kept ws pairs text (λ p. IsRc p.tpe) 0

  pub placebo-keeps : Keeps ws pairs text ExtractMaybePlacebo
  unfolding ExtractMaybePlacebo
  placebo-keeps = argument-kept ws pairs text _ 0

  uninit-keeps : Keeps ws pairs text MaybeUninitTypeUnderlying
  unfolding MaybeUninitTypeUnderlying
  uninit-keeps = argument-kept ws pairs text (λ p. IsMaybeUninit p.tpe) 0

  pub multi-array-keeps : Keeps ws pairs text MultiArrayUnderlying
  unfolding MultiArrayUnderlying
  multi-array-keeps = inner-kept (λ p. IsMultiArray p.tpe) 0

  pub pointer-keeps : Keeps ws pairs text ObjectOrPointerUnderlying
  unfolding ObjectOrPointerUnderlying
  pointer-keeps = inner-kept (λ p. IsObjectOrPointer p.tpe) 0

  pub box-dyn-keeps : Keeps ws pairs text BoxDynUnderlying
  unfolding BoxDynUnderlying
  box-dyn-keeps = record {
    keeps = λ p q s. when-keeps ws pairs text (IsBoxDyn p.tpe) (and_then (argument_of 0 p) dyn_of) q
        (then_keeps ws pairs text (argument_of 0 p) dyn_of q (λ u. (argument-keeps ws pairs text 0).keeps p u s) (dyn-keeps ws pairs text));
  }

  pick-keeps : (b : Bool) (x y : Option (Place Bytes)) (q : Place Bytes) → (x ≡ Some q → Standing ws pairs text q) → (y ≡ Some q → Standing ws pairs text q) → pick b x y ≡ Some q → Standing ws pairs text q
  pick-keeps true x y q h k e = h e
  pick-keeps false x y q h k e = k e

  pub collection-keeps : Keeps ws pairs text GetBuiltinCollectionElement
  unfolding GetBuiltinCollectionElement
  collection-keeps = record {
    keeps = λ p q s.
        let u = stand-expanded ws pairs text s in
        when-keeps ws pairs text (IsBuiltinCollection p.tpe) _ q
        (pick-keeps (is_map (Expand p.tpe)) (argument_of 1 (expanded p)) (argument_of 0 (expanded p)) q
        ((argument-keeps ws pairs text 1).keeps (expanded p) q u) ((argument-keeps ws pairs text 0).keeps (expanded p) q u));
  }

  pub uninit-element-keeps : Keeps ws pairs text uninit_element
  unfolding uninit_element
  uninit-element-keeps = record {
    keeps = λ p q s. else-keeps ws pairs text _ _ q
        (then_keeps ws pairs text (element_of p) MaybeUninitTypeUnderlying q (λ u. (element-keeps ws pairs text).keeps p u s) uninit-keeps)
        (then_keeps ws pairs text (MultiArrayUnderlying p) MaybeUninitTypeUnderlying q (λ u. multi-array-keeps.keeps p u s) uninit-keeps);
  }

  pub uninit-array-keeps : Keeps ws pairs text ExtractMaybeUninitArrayElement
  unfolding ExtractMaybeUninitArrayElement
  uninit-array-keeps = record {
    keeps = λ p q s. when-keeps ws pairs text (IsObjectOrPointer p.tpe) _ q
        (then_keeps ws pairs text (ObjectOrPointerUnderlying p) uninit_element q (λ u. pointer-keeps.keeps p u s) uninit-element-keeps);
  }

-- ---- where they are found

module _ (ws pairs : List ℕ) (text : Bytes) (at : ℕ) where
  abbrev again : ℕ → Reading (Ty Bytes)
  again = type_at ws pairs text

  pub multi-array-finds : (r : ℕ) {u : Option ℕ} → ExpandsAt again at r → Finds (first ArrayClass) again r u → Finds MultiArrayUnderlying again at u
  multi-array-finds r x d = finds-expanded ws pairs text at r x MultiArrayUnderlying (first ArrayClass) multi-array-first d

  pub pointer-finds : (r : ℕ) {m : Option ℕ} {s : ℕ} → ExpandsAt again at r → Finds (first PtrClass) again r m → m ≡ Some s → Finds ObjectOrPointerUnderlying again at (Some s)
  pointer-finds r x k y = finds-expanded ws pairs text at r x ObjectOrPointerUnderlying pointed pointer-first (record {
    says = λ t n e.
        let f = sym y ∙ k.says t n e in
        let i : is_of PtrClass t ≡ true = sym (first_found PtrClass (place r t)) ∙ ap is_found (sym f) in
        rw i f;
  })

  pub object-finds : (r : ℕ) {m u : Option ℕ} → ExpandsAt again at r → Finds (first PtrClass) again r m → m ≡ None → Finds (first ObjectClass) again r u → Finds ObjectOrPointerUnderlying again at u
  object-finds r x k y d = finds-expanded ws pairs text at r x ObjectOrPointerUnderlying pointed pointer-first (record {
    says = λ t n e.
        let f = sym y ∙ k.says t n e in
        let i : is_of PtrClass t ≡ false = sym (first_found PtrClass (place r t)) ∙ ap is_found (sym f) in
        rw i (d.says t n e);
  })

  pub set-finds : (r : ℕ) {m u : Option ℕ} → ExpandsAt again at r → Finds (first MapClass) again r m → m ≡ None → Finds (first Collection) again r u → Finds GetBuiltinCollectionElement again at u
  set-finds r x k y d = finds-expanded ws pairs text at r x GetBuiltinCollectionElement element collection-first (record {
    says = λ t n e. d.says t n e ∙ sym (no-map-element (place r t) (sym (k.says t n e) ∙ y));
  })

  pub map-finds : (r : ℕ) {m : Option ℕ} {key next : ℕ} → ExpandsAt again at r → Finds (first MapClass) again r m → m ≡ Some key → EndsAt (again key) next → Finds GetBuiltinCollectionElement again at (Some next)
  map-finds r {m} {key} {next} x k y d = finds-expanded ws pairs text at r x GetBuiltinCollectionElement element collection-first (record {
    says = λ t n e.
        let l = located ws pairs text r e (first-keeps ws pairs text MapClass) k y in
        let w : l.end ≡ key + words l.tpe = type-words ws pairs text key l.reads in
        let o : next ≡ key + words l.tpe = (let z : l.end ≡ next = cc (l.reads, d.reads) in sym z ∙ w) in
        ap Some o ∙ sym (map-element (place r t) key l.tpe l.is);
  })

  pub box-dyn-none : {m : Option ℕ} → Finds (first Boxed) again at m → m ≡ None → Finds BoxDynUnderlying again at None
  unfolding and_then found
  box-dyn-none k y = record { says = λ t n e. rw (box-dyn-first (place at t), nowhere ws pairs text at e k y) refl }

  pub box-dyn-other : {m : Option ℕ} {s : ℕ} → Finds (first Boxed) again at m → m ≡ Some s → (get_or ws s 0 ≡ 18 → ⊥) → Finds BoxDynUnderlying again at None
  unfolding and_then found dyn_of
  box-dyn-other {m} {s} k y h = record {
    says = λ t n e.
        let l = located ws pairs text at e (first-keeps ws pairs text Boxed) k y in
        rw (box-dyn-first (place at t), l.is, dyn-other s l.tpe (λ i. h (sym (type-kind ws pairs text s l.reads) ∙ i))) refl;
  }

  pub box-dyn-finds : {m : Option ℕ} {s : ℕ} → Finds (first Boxed) again at m → m ≡ Some s → get_or ws s 0 ≡ 18 → Finds BoxDynUnderlying again at (Some (s + 1))
  unfolding and_then found dyn_of dyn_at
  box-dyn-finds {m} {s} k y h = record {
    says = λ t n e.
        let l = located ws pairs text at e (first-keeps ws pairs text Boxed) k y in
        let i = dyn-of ws pairs text s l.reads h in
        rw (box-dyn-first (place at t), l.is, i.made) refl;
  }

  pub element-finds : {u : Option ℕ} → get_or ws at 0 ≡ 22 → Finds (first Uninit) again (at + 2) u → Finds uninit_element again at u
  element-finds h d = record {
    says = λ t n e.
        let m = (array_of ws pairs text at e h).1 in
        d.says m.value n m.reads ∙ ap found (sym (ap (λ v. uninit_element (place at v)) m.made ∙ uninit-of-array at m.value _));
  }

  pub element-none : {m : Option ℕ} → (get_or ws at 0 ≡ 22 → ⊥) → Finds MultiArrayUnderlying again at m → m ≡ None → Finds uninit_element again at None
  unfolding and_then found
  element-none h k y = record { says = λ t n e. rw (uninit-of-other at t (λ i. h (sym (type-kind ws pairs text at e) ∙ i)), nowhere ws pairs text at e k y) refl }

  pub element-inside : {m u : Option ℕ} {s : ℕ} → (get_or ws at 0 ≡ 22 → ⊥) → Finds MultiArrayUnderlying again at m → m ≡ Some s → Finds (first Uninit) again s u → Finds uninit_element again at u
  unfolding and_then
  element-inside h k y d = record {
    says = λ t n e.
        let l = located ws pairs text at e (multi-array-keeps ws pairs text) k y in
        rw (uninit-of-other at t (λ i. h (sym (type-kind ws pairs text at e) ∙ i)), l.is) (d.says l.tpe l.end l.reads);
  }

  pub extract-none : {m : Option ℕ} → Finds ObjectOrPointerUnderlying again at m → m ≡ None → Finds ExtractMaybeUninitArrayElement again at None
  unfolding and_then found
  extract-none k y = record { says = λ t n e. rw (uninit-of-pointer (place at t), nowhere ws pairs text at e k y) refl }

  pub extract-finds : {m u : Option ℕ} {s : ℕ} → Finds ObjectOrPointerUnderlying again at m → m ≡ Some s → Finds uninit_element again s u → Finds ExtractMaybeUninitArrayElement again at u
  unfolding and_then
  extract-finds k y d = record {
    says = λ t n e.
        let l = located ws pairs text at e (pointer-keeps ws pairs text) k y in
        rw (uninit-of-pointer (place at t), l.is) (d.says l.tpe l.end l.reads);
  }
