-- Rebuilding trees of name numbers is the source's rebuilding of trees of strings: what each name stands for put in its place afterwards, or before.
use Prim.Native.Nat.{ℕ}
use mathlib.Core.Path.{◌≡◌, refl, ◌∙◌}
use mathlib.Core.Bool.{Bool, true, false}
use mathlib.Core.List.{List, [], ◌∷◌, map}
use Rattle.rast.specs.Bytes.{Bytes}
use Rattle.rast.specs.Tree.{Ty, Tys, Primitive, TIdentifier, TypeFromPath, TypeApp, Borrowed, BorrowedMut, ImplType, DynType, TupleType, FnType, IntersectionType, Array, TSynonym, TMetaData, nil, cons}
use Rattle.encoding.specs.Tables.{name_bytes}
use Rattle.tree_words.specs.Renamed.{renamed, renamed_all}
use Rattle.rebuild_spec.specs.Same.{same_type, same_by}
use Rattle.rebuild_spec.specs.Replace.{Replace, Replaces, ruled, ReplaceMap}
use Rattle.rebuild_spec.specs.Rules.{Rule, mapping_of}

-- two mappings that agree up to names rebuild trees that agree up to names
module _ {N M : Type 0} (f : N → M) (m : Ty N → Ty N) (m' : Ty M → Ty M) (h : (t : Ty N) → renamed f (m t) ≡ m' (renamed f t)) where
  mutual
    unfolding Replace renamed

    pub replace-renamed : (t : Ty N) → renamed f (Replace m t) ≡ Replace m' (renamed f t)
    replace-renamed (Primitive p) = h (Primitive p)
    replace-renamed (TIdentifier x) = h (TIdentifier x)
    replace-renamed (TypeFromPath p) = h (TypeFromPath p)
    replace-renamed (TypeApp b ts) = h (TypeApp (Replace m b) (Replaces m ts)) ∙ rw (replace-renamed b, replaces-renamed ts) refl
    replace-renamed (Borrowed t) = h (Borrowed (Replace m t)) ∙ rw (replace-renamed t) refl
    replace-renamed (BorrowedMut t) = h (BorrowedMut (Replace m t)) ∙ rw (replace-renamed t) refl
    replace-renamed (ImplType t) = h (ImplType (Replace m t)) ∙ rw (replace-renamed t) refl
    replace-renamed (DynType t) = h (DynType (Replace m t)) ∙ rw (replace-renamed t) refl
    replace-renamed (TupleType ts) = h (TupleType (Replaces m ts)) ∙ rw (replaces-renamed ts) refl
    replace-renamed (FnType ts t) = h (FnType (Replaces m ts) (Replace m t)) ∙ rw (replaces-renamed ts, replace-renamed t) refl
    replace-renamed (IntersectionType l r) = h (IntersectionType (Replace m l) (Replace m r)) ∙ rw (replace-renamed l, replace-renamed r) refl
    replace-renamed (Array t s) = h (Array (Replace m t) s) ∙ rw (replace-renamed t) refl
    replace-renamed (TSynonym d b) = h (TSynonym (Replace m d) (Replace m b)) ∙ rw (replace-renamed d, replace-renamed b) refl
    replace-renamed (TMetaData d c o) = h (TMetaData (Replace m d) c o) ∙ rw (replace-renamed d) refl

    replaces-renamed : (ts : Tys N) → renamed_all f (Replaces m ts) ≡ Replaces m' (renamed_all f ts)
    replaces-renamed nil = refl
    replaces-renamed (cons t ts) = rw (replace-renamed t, replaces-renamed ts) refl

-- rules whose names are strings
abbrev pub spelled_rule : (ℕ → Bytes) → Rule → Ty Bytes × Ty Bytes
spelled_rule bytes r = (renamed bytes r.0, renamed bytes r.1)

module _ (bytes : ℕ → Bytes) where
  pub ruled-renamed : (rs : List Rule) (t : Ty ℕ) → renamed bytes (ruled (same_by bytes) rs t) ≡ ruled same_type (map (spelled_rule bytes) rs) (renamed bytes t)
  unfolding ruled same_by
  ruled-renamed [] t = refl
  ruled-renamed (r ∷ rs) t = go (same_type (renamed bytes t) (renamed bytes r.0)) (ruled-renamed rs t)
    where
      go : (b : Bool) → renamed bytes (ruled (same_by bytes) rs t) ≡ ruled same_type (map (spelled_rule bytes) rs) (renamed bytes t)
          → renamed bytes (elim b [ true ↦ r.1 | false ↦ ruled (same_by bytes) rs t ])
          ≡ elim b [ true ↦ renamed bytes r.1 | false ↦ ruled same_type (map (spelled_rule bytes) rs) (renamed bytes t) ]
      go true e = refl
      go false e = e

-- the tree that a call rebuilds, its names spelled out, is the source's `ReplaceMap` of the tree that the encoding holds, by the rules that the list holds; `same_type` is equality
-- (`same-type`, `type-same`)
pub rebuilt-strings : (pairs : List ℕ) (text : Bytes) (rs : List Rule) (t : Ty ℕ)
    → renamed (name_bytes pairs text) (Replace (mapping_of pairs text rs) t) ≡ ReplaceMap same_type (map (spelled_rule (name_bytes pairs text)) rs) (renamed (name_bytes pairs text) t)
unfolding mapping_of ReplaceMap
rebuilt-strings pairs text rs t =
    let bytes = name_bytes pairs text in
    replace-renamed bytes (ruled (same_by bytes) rs) (ruled same_type (map (spelled_rule bytes) rs)) (ruled-renamed bytes rs) t
