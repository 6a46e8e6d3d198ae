-- Parts behind wrappers.
use Rattle.std.specs.Prelude.{Option}
use Prim.Native.Nat.{ℕ, ◌+◌}
use mathlib.Core.Path.{◌≡◌, refl, ap, sym, ◌∙◌}
use mathlib.Core.List.{List}
use native.Mathlib.Omega.{arith}
use Rattle.rast.specs.Bytes.{Bytes}
use Rattle.rast.specs.Tree.{Ty, Primitive, TIdentifier, TypeFromPath, TypeApp, Borrowed, BorrowedMut, ImplType, DynType, TupleType, FnType, IntersectionType, Array, TSynonym, TMetaData}
use Rattle.rast.specs.DeclarationToString.{Expand}
use Rattle.encoding.specs.Reading.{got}
use Rattle.encoding.specs.Types.{type_at}
use Rattle.tree_words.specs.Encode.{words}
use Rattle.tree_words.specs.Places.{Place, place}
use Rattle.tree_words.proofs.Renaming.{type-words}
use Rattle.unwrap.specs.Asked.{ExpandsAt}
use Rattle.unwrap.proofs.Expanding.{synonym-words, meta-words}
use Rattle.known_paths.specs.Asked.{Finds, found}
use Rattle.shapes.specs.Parts.{expanded_at, expanded}
use Rattle.shapes.proofs.Pointers.{expanded-tree}

expanded-words : (p : ℕ) (t : Ty Bytes) → (expanded_at p t).at + words (expanded_at p t).tpe ≡ p + words t
unfolding expanded_at
expanded-words p (Primitive x) = refl
expanded-words p (TIdentifier x) = refl
expanded-words p (TypeFromPath x) = refl
expanded-words p (TypeApp b ts) = refl
expanded-words p (Borrowed t) = refl
expanded-words p (BorrowedMut t) = refl
expanded-words p (ImplType t) = refl
expanded-words p (DynType t) = refl
expanded-words p (TupleType ts) = refl
expanded-words p (FnType ts t) = refl
expanded-words p (IntersectionType l r) = refl
expanded-words p (Array t s) = refl
expanded-words p (TSynonym d b) = omega (arith, expanded-words (p + 1 + words d) b, synonym-words d b)
expanded-words p (TMetaData d c o) = omega (arith, expanded-words (p + 2) d, meta-words d c o)

place-as : (p : Place Bytes) {q : ℕ} {t : Ty Bytes} → p.at ≡ q → p.tpe ≡ t → p ≡ place q t
place-as p i j = rw (sym i, sym j) refl

module _ (ws pairs : List ℕ) (text : Bytes) (at r : ℕ) (x : ExpandsAt (type_at ws pairs text) at r) where
  expands-place : (t : Ty Bytes) (n : ℕ) → type_at ws pairs text at ≡ got t n → expanded (place at t) ≡ place r (Expand t)
  unfolding expanded
  expands-place t n e =
      let i = type-words ws pairs text at e in
      let j = type-words ws pairs text r (x.expands t n e) in
      let k : (expanded_at at t).at + words (Expand t) ≡ at + words t = ap (λ u. (expanded_at at t).at + words u) (sym (expanded-tree at t)) ∙ expanded-words at t in
      place-as (expanded_at at t) (omega (arith, i, j, k)) (expanded-tree at t)

  -- a part behind the wrappers
  pub finds-expanded : (f g : Place Bytes → Option (Place Bytes)) {u : Option ℕ} → ((p : Place Bytes) → f p ≡ g (expanded p)) → Finds g (type_at ws pairs text) r u → Finds f (type_at ws pairs text) at u
  finds-expanded f g h d = record {
    says = λ t n e. d.says (Expand t) n (x.expands t n e) ∙ ap found (ap g (sym (expands-place t n e)) ∙ sym (h (place at t)));
  }
