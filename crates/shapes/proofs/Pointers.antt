-- `MultiArray`, `Object` and `Ptr` by the classes of paths.
use Rattle.std.specs.Prelude.{Option}
use Prim.Native.Nat.{ℕ, ◌+◌}
use mathlib.Core.Path.{◌≡◌, refl, ap, sym, ◌∙◌}
use mathlib.Core.Bool.{Bool, true, false}
use lib.Dec.{eqb}
use Rattle.rast.specs.Bytes.{Bytes, ascii, begins, ◌and◌, ◌or◌}
use Rattle.rast.specs.Tree.{Ty, Primitive, TIdentifier, TypeFromPath, TypeApp, Borrowed, BorrowedMut, ImplType, DynType, TupleType, FnType, IntersectionType, Array, TSynonym, TMetaData, count}
use Rattle.rast.specs.DeclarationToString.{Expand}
use Rattle.encoding.specs.Refusals.{pick}
use Rattle.tree_words.specs.Encode.{words}
use Rattle.tree_words.specs.Places.{Place}
use Rattle.known_paths.specs.declared.Class.TheVariants.{ObjectClass, PtrClass, ArrayClass}
use Rattle.known_paths.specs.Asked.{found, is_found}
use Rattle.known_paths.specs.Classes.{in_class, arity, is_of, first}
use Rattle.known_paths.specs.Paths.{runtime_member}
use Rattle.known_paths.specs.Steps.{when, argument_of}
use Rattle.shapes.specs.Parts.{expanded_at, MultiArrayUnderlying, ObjectOrPointerUnderlying, expanded}
use Rattle.shapes.specs.Shapes.{IsPointer, IsObject, IsObjectOrPointer, IsMultiArray}
use Rattle.known_paths.proofs.Applying.{first_found, applied-alike}

and-swap : (a b : Bool) → (a and b) ≡ (b and a)
unfolding ◌and◌
and-swap true true = refl
and-swap true false = refl
and-swap false true = refl
and-swap false false = refl

pub multi-array-is : (t : Ty Bytes) → IsMultiArray t ≡ is_of ArrayClass (Expand t)
unfolding IsMultiArray is_of in_class arity
multi-array-is t = applied-alike _ _ (λ p ts. and-swap (eqb (count ts) 1) (runtime_member (begins (ascii "Array")) p)) (Expand t)

-- `Expand` at a place is `Expand` of the tree
pub expanded-tree : (p : ℕ) (t : Ty Bytes) → (expanded_at p t).tpe ≡ Expand t
unfolding expanded_at Expand
expanded-tree p (Primitive x) = refl
expanded-tree p (TIdentifier x) = refl
expanded-tree p (TypeFromPath x) = refl
expanded-tree p (TypeApp b ts) = refl
expanded-tree p (Borrowed t) = refl
expanded-tree p (BorrowedMut t) = refl
expanded-tree p (ImplType t) = refl
expanded-tree p (DynType t) = refl
expanded-tree p (TupleType ts) = refl
expanded-tree p (FnType ts t) = refl
expanded-tree p (IntersectionType l r) = refl
expanded-tree p (Array t s) = refl
expanded-tree p (TSynonym d b) = expanded-tree (p + 1 + words d) b
expanded-tree p (TMetaData d c o) = expanded-tree (p + 2) d

pub multi-array-first : (p : Place Bytes) → MultiArrayUnderlying p ≡ first ArrayClass (expanded p)
unfolding MultiArrayUnderlying first expanded
multi-array-first p = rw (multi-array-is p.tpe, sym (expanded-tree p.at p.tpe)) refl

-- the first argument of a `Ptr`, and else of an `Object`
abbrev pub pointed : Place Bytes → Option (Place Bytes)
pointed q = pick (is_of PtrClass q.tpe) (first PtrClass q) (first ObjectClass q)

pointed-when : (a b : Bool) (x : Option (Place Bytes)) → when (a or b) x ≡ pick a (when a x) (when b x)
unfolding when
pointed-when true b x = refl
pointed-when false b x = refl

pub pointer-first : (p : Place Bytes) → ObjectOrPointerUnderlying p ≡ pointed (expanded p)
unfolding ObjectOrPointerUnderlying IsObjectOrPointer IsPointer IsObject first is_of in_class arity expanded
pointer-first p =
    rw (sym (expanded-tree p.at p.tpe))
    (pointed-when (is_of PtrClass (expanded p).tpe) (is_of ObjectClass (expanded p).tpe) (argument_of 0 (expanded p)))

pub pointer_is : (t : Ty Bytes) → (is_of PtrClass (Expand t) or is_of ObjectClass (Expand t)) ≡ IsObjectOrPointer t
unfolding IsObjectOrPointer IsPointer IsObject is_of in_class arity
pointer_is t = refl

pub pointer-found : (p : Place Bytes) → is_found (found (ObjectOrPointerUnderlying p)) ≡ IsObjectOrPointer p.tpe
unfolding IsObjectOrPointer IsPointer IsObject is_of in_class arity expanded
pointer-found p = rw (pointer-first p) (go (expanded p) (is_of PtrClass (expanded p).tpe) refl ∙ rw (expanded-tree p.at p.tpe) refl)
  where
    go : (q : Place Bytes) (b : Bool) → is_of PtrClass q.tpe ≡ b → is_found (found (pointed q)) ≡ (is_of PtrClass q.tpe or is_of ObjectClass q.tpe)
    go q true e = rw e (first_found PtrClass q ∙ e)
    go q false e = rw e (first_found ObjectClass q)

pub multi-array-found : (p : Place Bytes) → is_found (found (MultiArrayUnderlying p)) ≡ IsMultiArray p.tpe
unfolding expanded
multi-array-found p =
    rw (multi-array-first p) (first_found ArrayClass (expanded p)) ∙ ap (is_of ArrayClass) (expanded-tree p.at p.tpe) ∙ sym (multi-array-is p.tpe)
