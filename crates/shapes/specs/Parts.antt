-- RAST's functions from a type to a part of it: from a place to the place of the part. `None` stands exactly where the
-- source's `requires` fails or its answer is `None`.
use Rattle.std.specs.Prelude.{Option, Some, ℕ, ◌+◌, Bool, eqb}
use Rattle.rast.specs.Bytes.{Bytes, ascii, same, ◌and◌}
use Rattle.rast.specs.Tree.{Ty, Primitive, TIdentifier, TypeFromPath, TypeApp, Borrowed, BorrowedMut, ImplType, DynType, TupleType, FnType, IntersectionType, Array, TSynonym, TMetaData, count}
use Rattle.rast.specs.DeclarationToString.{Expand}
use Rattle.encoding.specs.Refusals.{pick}
use Rattle.tree_words.specs.Encode.{words}
use Rattle.tree_words.specs.Places.{Place, place}
use Rattle.known_paths.specs.Matches.{applied}
use Rattle.known_paths.specs.Paths.{same_path, runtime_member, MaybePlaceboPath}
use Rattle.known_paths.specs.Steps.{and_then, argument_of, dyn_of, element_of, or_else, when}
use Rattle.shapes.specs.Shapes.{IsBox, IsRc, IsBoxDyn, IsMaybeUninit, IsMultiArray, IsObjectOrPointer, IsBuiltinCollection}

-- ---- behind wrappers and borrows

-- the body of `Type.RemoveSynonyms`, with where the type stands
unfoldable pub removed_at : {N : Type 0} → ℕ → Ty N → Place N
removed_at p (Primitive x) = place p (Primitive x)
removed_at p (TIdentifier x) = place p (TIdentifier x)
removed_at p (TypeFromPath x) = place p (TypeFromPath x)
removed_at p (TypeApp b ts) = place p (TypeApp b ts)
removed_at p (Borrowed t) = place p (Borrowed t)
removed_at p (BorrowedMut t) = place p (BorrowedMut t)
removed_at p (ImplType t) = place p (ImplType t)
removed_at p (DynType t) = place p (DynType t)
removed_at p (TupleType ts) = place p (TupleType ts)
removed_at p (FnType ts t) = place p (FnType ts t)
removed_at p (IntersectionType l r) = place p (IntersectionType l r)
removed_at p (Array t s) = place p (Array t s)
removed_at p (TSynonym display base) = removed_at (p + 1) display
removed_at p (TMetaData display c o) = removed_at (p + 2) display

-- `Type.RemoveSynonyms`: the display is followed
unfoldable pub RemoveSynonyms : Place Bytes → Option (Place Bytes)
RemoveSynonyms p = Some (removed_at p.at p.tpe)

-- the body of `Type.Expand`, with where the type stands
unfoldable pub expanded_at : {N : Type 0} → ℕ → Ty N → Place N
expanded_at p (Primitive x) = place p (Primitive x)
expanded_at p (TIdentifier x) = place p (TIdentifier x)
expanded_at p (TypeFromPath x) = place p (TypeFromPath x)
expanded_at p (TypeApp b ts) = place p (TypeApp b ts)
expanded_at p (Borrowed t) = place p (Borrowed t)
expanded_at p (BorrowedMut t) = place p (BorrowedMut t)
expanded_at p (ImplType t) = place p (ImplType t)
expanded_at p (DynType t) = place p (DynType t)
expanded_at p (TupleType ts) = place p (TupleType ts)
expanded_at p (FnType ts t) = place p (FnType ts t)
expanded_at p (IntersectionType l r) = place p (IntersectionType l r)
expanded_at p (Array t s) = place p (Array t s)
expanded_at p (TSynonym display base) = expanded_at (p + 1 + words display) base
expanded_at p (TMetaData display c o) = expanded_at (p + 2) display

-- where `Expand` of a type stands
unfoldable pub expanded : {N : Type 0} → Place N → Place N
expanded p = expanded_at p.at p.tpe

-- `Type.Expand`: the base is followed
unfoldable pub ExpandAt : Place Bytes → Option (Place Bytes)
ExpandAt p = Some (expanded p)

-- the body of `Type.ToOwned`, with where the type stands
unfoldable pub owned_at : {N : Type 0} → ℕ → Ty N → Place N
owned_at p (Primitive x) = place p (Primitive x)
owned_at p (TIdentifier x) = place p (TIdentifier x)
owned_at p (TypeFromPath x) = place p (TypeFromPath x)
owned_at p (TypeApp b ts) = place p (TypeApp b ts)
owned_at p (Borrowed t) = place (p + 1) t
owned_at p (BorrowedMut t) = place (p + 1) t
owned_at p (ImplType t) = place p (ImplType t)
owned_at p (DynType t) = place p (DynType t)
owned_at p (TupleType ts) = place p (TupleType ts)
owned_at p (FnType ts t) = place p (FnType ts t)
owned_at p (IntersectionType l r) = place p (IntersectionType l r)
owned_at p (Array t s) = place p (Array t s)
owned_at p (TSynonym d b) = place p (TSynonym d b)
owned_at p (TMetaData d c o) = place p (TMetaData d c o)

-- `Type.ToOwned`
unfoldable pub ToOwned : Place Bytes → Option (Place Bytes)
ToOwned p = Some (owned_at p.at p.tpe)

-- ---- what an application holds

-- `Type.BoxUnderlying`
unfoldable pub BoxUnderlying : Place Bytes → Option (Place Bytes)
BoxUnderlying p = when (IsBox p.tpe) (argument_of 0 p)

-- `Type.RcUnderlying`
unfoldable pub RcUnderlying : Place Bytes → Option (Place Bytes)
RcUnderlying p = when (IsRc p.tpe) (argument_of 0 p)

-- `Type.BoxDynUnderlying`
unfoldable pub BoxDynUnderlying : Place Bytes → Option (Place Bytes)
BoxDynUnderlying p = when (IsBoxDyn p.tpe) (and_then (argument_of 0 p) dyn_of)

-- `MaybeUninitTypeUnderlying`
unfoldable pub MaybeUninitTypeUnderlying : Place Bytes → Option (Place Bytes)
MaybeUninitTypeUnderlying p = when (IsMaybeUninit p.tpe) (argument_of 0 p)

-- `Type.ExtractMaybePlacebo`
unfoldable pub ExtractMaybePlacebo : Place Bytes → Option (Place Bytes)
ExtractMaybePlacebo p =
    when (applied (λ wrapper arguments. same_path wrapper MaybePlaceboPath and eqb (count arguments) 1) p.tpe) (argument_of 0 p)

-- `Type.MultiArrayUnderlying`
unfoldable pub MultiArrayUnderlying : Place Bytes → Option (Place Bytes)
MultiArrayUnderlying p = when (IsMultiArray p.tpe) (argument_of 0 (expanded p))

-- `Type.ObjectOrPointerUnderlying`
unfoldable pub ObjectOrPointerUnderlying : Place Bytes → Option (Place Bytes)
ObjectOrPointerUnderlying p = when (IsObjectOrPointer p.tpe) (argument_of 0 (expanded p))

-- `tpe == "Map"` for a member of `dafny_runtime`
unfoldable pub is_map : Ty Bytes → Bool
is_map = applied (λ path elems. runtime_member (λ tpe. same tpe (ascii "Map")) path)

-- `Type.GetBuiltinCollectionElement`
unfoldable pub GetBuiltinCollectionElement : Place Bytes → Option (Place Bytes)
GetBuiltinCollectionElement p =
    when (IsBuiltinCollection p.tpe) (pick (is_map (Expand p.tpe)) (argument_of 1 (expanded p)) (argument_of 0 (expanded p)))

-- the cases of `ExtractMaybeUninitArrayElement` for the type under the pointer: an array, with a size or without, and a `MultiArray`
unfoldable pub uninit_element : Place Bytes → Option (Place Bytes)
uninit_element s =
    or_else (and_then (element_of s) MaybeUninitTypeUnderlying) (and_then (MultiArrayUnderlying s) MaybeUninitTypeUnderlying)

-- `Type.ExtractMaybeUninitArrayElement`
unfoldable pub ExtractMaybeUninitArrayElement : Place Bytes → Option (Place Bytes)
ExtractMaybeUninitArrayElement p = when (IsObjectOrPointer p.tpe) (and_then (ObjectOrPointerUnderlying p) uninit_element)
