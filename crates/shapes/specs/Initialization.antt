-- `Type.TypeAtInitialization`, on trees whose names are of type N: `fixed` gives the fixed names, and `spelled` the tree of strings, of which shapes are asked. The calls write trees of
-- name numbers; the source has trees of strings (`initial-strings`, crates/rebuild_initial/proofs/Strings.antt: it is the same).
use Rattle.std.specs.Prelude.{Option, Some, None, ℕ}
use Rattle.rast.specs.Bytes.{Bytes}
use Rattle.rast.specs.Tree.{Global, PMemberSelect, Ty, Primitive, TIdentifier, TypeFromPath, TypeApp, Borrowed, BorrowedMut, ImplType, DynType, TupleType, FnType, IntersectionType, Array, TSynonym, TMetaData, nil, cons}
use Rattle.rast.specs.DeclarationToString.{Expand}
use Rattle.encoding.specs.Words.{std_name, mem_name, maybe_uninit_name, dafny_runtime_name, object_name, ptr_name}
use Rattle.encoding.specs.Refusals.{pick}
use Rattle.known_paths.specs.Matches.{argument, unsized}
use Rattle.known_paths.specs.Steps.{when, and_then, or_else}
use Rattle.shapes.specs.Shapes.{IsObject, IsObjectOrPointer, IsMultiArray}

unfoldable pub or_this : {A : Type 0} → A → Option A → A
or_this a None = a
or_this a (Some b) = b

-- a name's number stands for itself
abbrev pub own_number : ℕ → ℕ
own_number x = x

module _ {N : Type 0} (fixed : ℕ → N) where
  -- `MaybeUninitType`, `ObjectType`, `PtrType`: their names are fixed ones
  unfoldable pub MaybeUninitType : Ty N → Ty N
  MaybeUninitType underlying = TypeApp (TypeFromPath (PMemberSelect (PMemberSelect (PMemberSelect Global (fixed std_name)) (fixed mem_name)) (fixed maybe_uninit_name))) (cons underlying nil)

  unfoldable pub ObjectType : Ty N → Ty N
  ObjectType underlying = TypeApp (TypeFromPath (PMemberSelect (PMemberSelect Global (fixed dafny_runtime_name)) (fixed object_name))) (cons underlying nil)

  unfoldable pub PtrType : Ty N → Ty N
  PtrType underlying = TypeApp (TypeFromPath (PMemberSelect (PMemberSelect Global (fixed dafny_runtime_name)) (fixed ptr_name))) (cons underlying nil)

  -- `TypeApp(baseName, [MaybeUninitType(a)])` for an application
  unfoldable pub applied_to_uninit : Ty N → Ty N → Option (Ty N)
  applied_to_uninit a (Primitive p) = None
  applied_to_uninit a (TIdentifier x) = None
  applied_to_uninit a (TypeFromPath p) = None
  applied_to_uninit a (TypeApp baseName arguments) = Some (TypeApp baseName (cons (MaybeUninitType a) nil))
  applied_to_uninit a (Borrowed t) = None
  applied_to_uninit a (BorrowedMut t) = None
  applied_to_uninit a (ImplType t) = None
  applied_to_uninit a (DynType t) = None
  applied_to_uninit a (TupleType ts) = None
  applied_to_uninit a (FnType ts t) = None
  applied_to_uninit a (IntersectionType l r) = None
  applied_to_uninit a (Array t s) = None
  applied_to_uninit a (TSynonym d b) = None
  applied_to_uninit a (TMetaData d c o) = None

  module _ (spelled : Ty N → Ty Bytes) where
    -- `new_underlying`: of an array without size, else of a `MultiArray`
    unfoldable pub new_underlying : Ty N → Option (Ty N)
    new_underlying s =
        or_else (and_then (unsized s) λ underlying. Some (Array (MaybeUninitType underlying) None))
        (when (IsMultiArray (spelled s)) (and_then (argument 0 (Expand s)) λ a. applied_to_uninit a (Expand s)))

    -- `Type.TypeAtInitialization`: `IsObject` is asked of the type as it stands, so a wrapped `Object` becomes a `Ptr`
    unfoldable pub TypeAtInitialization : Ty N → Ty N
    TypeAtInitialization t =
        or_this t
        (when (IsObjectOrPointer (spelled t))
        (and_then (argument 0 (Expand t)) λ s. and_then (new_underlying s) λ n. Some (pick (IsObject (spelled t)) (ObjectType n) (PtrType n))))
