-- RAST's yes-or-no answers about the shape of a type, each by the body of the function it is named after.
use Rattle.std.specs.Prelude.{Option, Some, None, Bool, true, false, eqb}
use Rattle.rast.specs.Bytes.{Bytes, ascii, same, begins, ◌and◌, ◌or◌}
use Rattle.rast.specs.Tree.{PrimitiveTy, U8, U16, U32, U64, U128, I8, I16, I32, I64, I128, USIZE, Bool·, Ty, Primitive, TIdentifier, TypeFromPath, TypeApp, Borrowed, BorrowedMut, ImplType, DynType, TupleType, FnType, IntersectionType, Array, TSynonym, TMetaData, count}
use Rattle.rast.specs.DeclarationToString.{Expand}
use Rattle.known_paths.specs.Matches.{applied, argument, is_dyn, some_is, unsized}
use Rattle.known_paths.specs.Paths.{same_path, runtime_member, RcPath, ArcPath, BoxPath, MaybeUninitPath, ObjectPath, PtrPath}

-- ---- applications of a path

-- `Type.IsBox`
unfoldable pub IsBox : Ty Bytes → Bool
IsBox = applied (λ o elems1. same_path o BoxPath and eqb (count elems1) 1)

-- `Type.IsObject`
unfoldable pub IsObject : Ty Bytes → Bool
IsObject = applied (λ o elems1. same_path o ObjectPath and eqb (count elems1) 1)

-- `Type.IsPointer`
unfoldable pub IsPointer : Ty Bytes → Bool
IsPointer = applied (λ o elems1. same_path o PtrPath and eqb (count elems1) 1)

-- `Type.IsMaybeUninit`; `IsMaybeUninitType` asks the same
unfoldable pub IsMaybeUninit : Ty Bytes → Bool
IsMaybeUninit = applied (λ path arguments. same_path path MaybeUninitPath and eqb (count arguments) 1)

-- `Type.IsRc`
unfoldable pub IsRc : Ty Bytes → Bool
IsRc = applied (λ path arguments. (same_path path RcPath or same_path path ArcPath) and eqb (count arguments) 1)

-- `Type.IsBoxDyn`
unfoldable pub IsBoxDyn : Ty Bytes → Bool
IsBoxDyn t = applied (λ path arguments. same_path path BoxPath and eqb (count arguments) 1) t and some_is is_dyn (argument 0 t)

-- `Type.IsObjectOrPointer`
unfoldable pub IsObjectOrPointer : Ty Bytes → Bool
IsObjectOrPointer t = IsPointer (Expand t) or IsObject (Expand t)

-- `Type.IsMultiArray`
unfoldable pub IsMultiArray : Ty Bytes → Bool
IsMultiArray t = applied (λ path args. eqb (count args) 1 and runtime_member (begins (ascii "Array")) path) (Expand t)

-- `Type.IsBuiltinCollection`
unfoldable pub IsBuiltinCollection : Ty Bytes → Bool
IsBuiltinCollection t =
    applied (λ path elems1. runtime_member (λ tpe.
    ((same tpe (ascii "Set") or same tpe (ascii "Sequence") or same tpe (ascii "Multiset")) and eqb (count elems1) 1)
    or (same tpe (ascii "Map") and eqb (count elems1) 2)) path)
    (Expand t)

-- ---- arrays of `MaybeUninit`

-- the cases of `IsUninitArray` for the type under the pointer: an array without size, by its element, and a `MultiArray`
unfoldable pub uninit_cases : Option (Ty Bytes) → Ty Bytes → Bool
uninit_cases (Some underlying) s = IsMaybeUninit underlying
uninit_cases None s = IsMultiArray s and some_is IsMaybeUninit (argument 0 s)

-- `Type.IsUninitArray`
unfoldable pub IsUninitArray : Ty Bytes → Bool
IsUninitArray t = IsObjectOrPointer t and some_is (λ u. uninit_cases (unsized (Expand u)) (Expand u)) (argument 0 (Expand t))

-- ---- borrows

-- `Type.NeedsAsRefForBorrow`
unfoldable pub NeedsAsRefForBorrow : Ty Bytes → Bool
NeedsAsRefForBorrow (Primitive p) = IsBox (Primitive p) or IsRc (Primitive p)
NeedsAsRefForBorrow (TIdentifier x) = IsBox (TIdentifier x) or IsRc (TIdentifier x)
NeedsAsRefForBorrow (TypeFromPath p) = IsBox (TypeFromPath p) or IsRc (TypeFromPath p)
NeedsAsRefForBorrow (TypeApp b ts) = IsBox (TypeApp b ts) or IsRc (TypeApp b ts)
NeedsAsRefForBorrow (Borrowed underlying) = IsBox underlying or IsRc underlying
NeedsAsRefForBorrow (BorrowedMut t) = IsBox (BorrowedMut t) or IsRc (BorrowedMut t)
NeedsAsRefForBorrow (ImplType t) = IsBox (ImplType t) or IsRc (ImplType t)
NeedsAsRefForBorrow (DynType t) = IsBox (DynType t) or IsRc (DynType t)
NeedsAsRefForBorrow (TupleType ts) = IsBox (TupleType ts) or IsRc (TupleType ts)
NeedsAsRefForBorrow (FnType ts t) = IsBox (FnType ts t) or IsRc (FnType ts t)
NeedsAsRefForBorrow (IntersectionType l r) = IsBox (IntersectionType l r) or IsRc (IntersectionType l r)
NeedsAsRefForBorrow (Array t s) = IsBox (Array t s) or IsRc (Array t s)
NeedsAsRefForBorrow (TSynonym d b) = IsBox (TSynonym d b) or IsRc (TSynonym d b)
NeedsAsRefForBorrow (TMetaData d c o) = IsBox (TMetaData d c o) or IsRc (TMetaData d c o)

-- `Type.IsRcOrBorrowedRc`
unfoldable pub IsRcOrBorrowedRc : Ty Bytes → Bool
IsRcOrBorrowedRc (Primitive p) = IsRc (Primitive p)
IsRcOrBorrowedRc (TIdentifier x) = IsRc (TIdentifier x)
IsRcOrBorrowedRc (TypeFromPath p) = IsRc (TypeFromPath p)
IsRcOrBorrowedRc (TypeApp b ts) = IsRc (TypeApp b ts)
IsRcOrBorrowedRc (Borrowed underlying) = IsRc (Borrowed underlying) or IsRcOrBorrowedRc underlying
IsRcOrBorrowedRc (BorrowedMut t) = IsRc (BorrowedMut t)
IsRcOrBorrowedRc (ImplType t) = IsRc (ImplType t)
IsRcOrBorrowedRc (DynType t) = IsRc (DynType t)
IsRcOrBorrowedRc (TupleType ts) = IsRc (TupleType ts)
IsRcOrBorrowedRc (FnType ts t) = IsRc (FnType ts t)
IsRcOrBorrowedRc (IntersectionType l r) = IsRc (IntersectionType l r)
IsRcOrBorrowedRc (Array t s) = IsRc (Array t s)
IsRcOrBorrowedRc (TSynonym display base) = IsRc (TSynonym display base) or IsRcOrBorrowedRc base
IsRcOrBorrowedRc (TMetaData d c o) = IsRc (TMetaData d c o)

-- ---- numbers, and types that are read without a clone

-- `U8? || .. || I128?`
unfoldable pub is_fixed_number : PrimitiveTy → Bool
is_fixed_number U8 = true
is_fixed_number U16 = true
is_fixed_number U32 = true
is_fixed_number U64 = true
is_fixed_number U128 = true
is_fixed_number I8 = true
is_fixed_number I16 = true
is_fixed_number I32 = true
is_fixed_number I64 = true
is_fixed_number I128 = true
is_fixed_number USIZE = false
is_fixed_number Bool· = false

-- `U8? || .. || I128? || USIZE?`
unfoldable pub is_number : PrimitiveTy → Bool
is_number U8 = true
is_number U16 = true
is_number U32 = true
is_number U64 = true
is_number U128 = true
is_number I8 = true
is_number I16 = true
is_number I32 = true
is_number I64 = true
is_number I128 = true
is_number USIZE = true
is_number Bool· = false

-- `Bool?`
unfoldable pub is_bool : PrimitiveTy → Bool
is_bool U8 = false
is_bool U16 = false
is_bool U32 = false
is_bool U64 = false
is_bool U128 = false
is_bool I8 = false
is_bool I16 = false
is_bool I32 = false
is_bool I64 = false
is_bool I128 = false
is_bool USIZE = false
is_bool Bool· = true

-- `Type.EndsWithNameThatCanAcceptGenerics`
unfoldable pub EndsWithNameThatCanAcceptGenerics : Ty Bytes → Bool
EndsWithNameThatCanAcceptGenerics (Primitive p) = is_fixed_number p
EndsWithNameThatCanAcceptGenerics (TIdentifier x) = true
EndsWithNameThatCanAcceptGenerics (TypeFromPath p) = true
EndsWithNameThatCanAcceptGenerics (TypeApp b ts) = false
EndsWithNameThatCanAcceptGenerics (Borrowed underlying) = EndsWithNameThatCanAcceptGenerics underlying
EndsWithNameThatCanAcceptGenerics (BorrowedMut underlying) = EndsWithNameThatCanAcceptGenerics underlying
EndsWithNameThatCanAcceptGenerics (ImplType underlying) = EndsWithNameThatCanAcceptGenerics underlying
EndsWithNameThatCanAcceptGenerics (DynType underlying) = EndsWithNameThatCanAcceptGenerics underlying
EndsWithNameThatCanAcceptGenerics (TupleType ts) = false
EndsWithNameThatCanAcceptGenerics (FnType ts t) = false
EndsWithNameThatCanAcceptGenerics (IntersectionType left right) = EndsWithNameThatCanAcceptGenerics right
EndsWithNameThatCanAcceptGenerics (Array t s) = false
EndsWithNameThatCanAcceptGenerics (TSynonym display base) = EndsWithNameThatCanAcceptGenerics display
EndsWithNameThatCanAcceptGenerics (TMetaData display c o) = EndsWithNameThatCanAcceptGenerics display

-- `Type.IsAutoSize`
unfoldable pub IsAutoSize : Ty Bytes → Bool
IsAutoSize (Primitive p) = is_number p
IsAutoSize (TIdentifier x) = false
IsAutoSize (TypeFromPath p) = false
IsAutoSize (TypeApp b ts) = false
IsAutoSize (Borrowed t) = false
IsAutoSize (BorrowedMut t) = false
IsAutoSize (ImplType t) = false
IsAutoSize (DynType t) = false
IsAutoSize (TupleType ts) = false
IsAutoSize (FnType ts t) = false
IsAutoSize (IntersectionType l r) = false
IsAutoSize (Array t s) = false
IsAutoSize (TSynonym display base) = IsAutoSize base
IsAutoSize (TMetaData display c o) = IsAutoSize display

-- `Type.CanReadWithoutClone`
unfoldable pub CanReadWithoutClone : Ty Bytes → Bool
CanReadWithoutClone (Primitive p) = IsAutoSize (Primitive p) or is_bool p or IsPointer (Primitive p)
CanReadWithoutClone (TIdentifier x) = IsAutoSize (TIdentifier x) or IsPointer (TIdentifier x)
CanReadWithoutClone (TypeFromPath p) = IsAutoSize (TypeFromPath p) or IsPointer (TypeFromPath p)
CanReadWithoutClone (TypeApp b ts) = IsAutoSize (TypeApp b ts) or IsPointer (TypeApp b ts)
CanReadWithoutClone (Borrowed t) = IsAutoSize (Borrowed t) or IsPointer (Borrowed t)
CanReadWithoutClone (BorrowedMut t) = IsAutoSize (BorrowedMut t) or IsPointer (BorrowedMut t)
CanReadWithoutClone (ImplType t) = IsAutoSize (ImplType t) or IsPointer (ImplType t)
CanReadWithoutClone (DynType t) = IsAutoSize (DynType t) or IsPointer (DynType t)
CanReadWithoutClone (TupleType ts) = IsAutoSize (TupleType ts) or IsPointer (TupleType ts)
CanReadWithoutClone (FnType ts t) = IsAutoSize (FnType ts t) or IsPointer (FnType ts t)
CanReadWithoutClone (IntersectionType l r) = IsAutoSize (IntersectionType l r) or IsPointer (IntersectionType l r)
CanReadWithoutClone (Array t s) = IsAutoSize (Array t s) or IsPointer (Array t s)
CanReadWithoutClone (TSynonym display base) =
    IsAutoSize (TSynonym display base) or IsPointer (TSynonym display base) or CanReadWithoutClone base
CanReadWithoutClone (TMetaData display copySemantics overflow) =
    IsAutoSize (TMetaData display copySemantics overflow) or IsPointer (TMetaData display copySemantics overflow)
    or (copySemantics or CanReadWithoutClone display)
