-- Following wrappers: behind one, what `Expand` gives is the same, and so is where it ends.
use Prim.Native.Nat.{ℕ, ◌+◌, ◌<◌}
use mathlib.Core.Path.{◌≡◌, refl, ap, sym, ◌∙◌}
use mathlib.Core.Bool.{Bool}
use mathlib.Core.List.{List}
use native.Mathlib.Omega.{arith}
use lib.ListN.{length, get_or, length-append}
use Rattle.rast.specs.Bytes.{Bytes}
use Rattle.rast.specs.Tree.{Ty, Primitive, TIdentifier, TypeFromPath, TypeApp, Borrowed, BorrowedMut, ImplType, DynType, TupleType, FnType, IntersectionType, Array, TSynonym, TMetaData}
use Rattle.rast.specs.DeclarationToString.{Expand}
use Rattle.encoding.specs.Reading.{Reading, got}
use Rattle.encoding.specs.Tested.{Good}
use Rattle.encoding.specs.Types.{type_at}
use Rattle.encoding.proofs.TypeKinds.{kind, type-kind}
use Rattle.tree_words.specs.Encode.{tokens, words}
use Rattle.tree_words.proofs.Renaming.{type-words}
use Rattle.accepted_types.specs.Accepted.{Readable}
use Rattle.accepted_types.proofs.Accepted.{type-here}
use Rattle.unwrap.specs.Asked.{ExpandsAt}
use Rattle.unwrap.proofs.Going.{Going}

-- ---- how many words a wrapper has

pub synonym-words : {N : Type 0} (d b : Ty N) → words (TSynonym d b) ≡ 1 + words d + words b
unfolding words tokens
synonym-words d b = omega (arith, length-append (tokens d) (tokens b))

pub meta-words : {N : Type 0} (d : Ty N) (c o : Bool) → words (TMetaData d c o) ≡ 2 + words d
unfolding words tokens
meta-words d c o = omega arith

-- ---- `Expand` of a type that begins at p, and where it ends

abbrev pub expand_to : ℕ → Ty Bytes → Reading (Ty Bytes)
expand_to p t = got (Expand t) (p + words t)

pub expand-base : (p : ℕ) (d b : Ty Bytes) → expand_to p (TSynonym d b) ≡ expand_to (p + 1 + words d) b
unfolding Expand
expand-base p d b = ap (got (Expand b)) (omega (arith, synonym-words d b))

pub expand-display : (p : ℕ) (c o : Bool) (d : Ty Bytes) → expand_to p (TMetaData d c o) ≡ expand_to (p + 2) d
unfolding Expand
expand-display p c o d = ap (got (Expand d)) (omega (arith, meta-words d c o))

-- no wrapper
pub expand-bare : (t : Ty Bytes) → (kind t ≡ 23 → ⊥) → (kind t ≡ 24 → ⊥) → Expand t ≡ t
unfolding Expand
expand-bare (Primitive p) h k = refl
expand-bare (TIdentifier x) h k = refl
expand-bare (TypeFromPath p) h k = refl
expand-bare (TypeApp b ts) h k = refl
expand-bare (Borrowed t) h k = refl
expand-bare (BorrowedMut t) h k = refl
expand-bare (ImplType t) h k = refl
expand-bare (DynType t) h k = refl
expand-bare (TupleType ts) h k = refl
expand-bare (FnType ts t) h k = refl
expand-bare (IntersectionType l r) h k = refl
expand-bare (Array t s) h k = refl
expand-bare (TSynonym d b) h k = absurd (h refl)
expand-bare (TMetaData d c o) h k = absurd (k refl)

-- ---- where it stands

module _ {ws pairs : List ℕ} {text : Bytes} {at : ℕ} where
  pub expand-arrived : {place : ℕ} → Going expand_to ws pairs text at place → (get_or ws place 0 ≡ 23 → ⊥) → (get_or ws place 0 ≡ 24 → ⊥) → ExpandsAt (type_at ws pairs text) at place
  expand-arrived {place} s h k = record {
    expands = λ t n e.
        let d = type-kind ws pairs text place s.left in
        let b : Expand s.inner ≡ s.inner = expand-bare s.inner (λ i. h (sym d ∙ i)) (λ i. k (sym d ∙ i)) in
        let o : s.stop ≡ place + words s.inner = type-words ws pairs text place s.left in
        let i : s.type ≡ t = cc s.reads in
        let w : n ≡ at + words t = type-words ws pairs text at e in
        s.left ∙ ap (λ u. got u s.stop) (sym b) ∙ ap (got (Expand s.inner)) o ∙ s.same ∙ ap (expand_to at) i ∙ ap (got (Expand t)) (sym w);
  }

module _ (ws pairs : List ℕ) (text : Bytes) (at : ℕ) where
  -- what `Expand` gives was read where it stands
  pub expands-readable : (r : ℕ) → ExpandsAt (type_at ws pairs text) at r → Readable (type_at ws pairs text at) → Readable (type_at ws pairs text r)
  expands-readable r x d = record { value = Expand d.value; end = d.end; reads = x.expands d.value d.end d.reads }

  pub expands-ready : (r : ℕ) → ExpandsAt (type_at ws pairs text) at r → Good pairs text × Readable (type_at ws pairs text at) → Good pairs text × Readable (type_at ws pairs text r)
  expands-ready r x d = (d.0, expands-readable r x d.1)

  pub expands-here : (r : ℕ) → ExpandsAt (type_at ws pairs text) at r → Readable (type_at ws pairs text at) → r < length ws
  expands-here r x d = type-here ws pairs text r (expands-readable r x d).reads
