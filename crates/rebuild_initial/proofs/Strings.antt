-- `TypeAtInitialization` of a tree of name numbers is the source's on the tree of strings.
use Rattle.std.specs.Prelude.{Option, Some, None}
use Rattle.std.proofs.Common.{◌≡◌, ℕ, Bool, true, false, ltb, List, [], get_or, sym, refl, ap}
use Rattle.rast.specs.Bytes.{Bytes}
use Rattle.rast.specs.Tree.{Ty, Primitive, TIdentifier, TypeFromPath, TypeApp, Borrowed, BorrowedMut, ImplType, DynType, TupleType, FnType, IntersectionType, Array, TSynonym, TMetaData, nil, cons}
use Rattle.rast.specs.DeclarationToString.{Expand}
use Rattle.encoding.specs.Words.{first_pair, std_name, mem_name, maybe_uninit_name, dafny_runtime_name, object_name, ptr_name}
use Rattle.encoding.specs.Refusals.{pick}
use Rattle.encoding.specs.Tables.{fixed_names, name_bytes}
use Rattle.tree_words.specs.Renamed.{renamed_path, renamed_size, renamed}
use Rattle.known_paths.specs.Matches.{type_in, argument, unsized}
use Rattle.known_paths.specs.Steps.{when, and_then, or_else}
use Rattle.shapes.specs.Shapes.{IsObject, IsObjectOrPointer, IsMultiArray}
use Rattle.shapes.specs.Initialization.{or_this, own_number, MaybeUninitType, ObjectType, PtrType, applied_to_uninit, new_underlying, TypeAtInitialization}

-- what is there, made into something else
abbrev through : {A B : Type 0} → (A → B) → Option A → Option B
through f None = None
through f (Some a) = Some (f a)

-- ---- parts of a renamed tree

module _ {N M : Type 0} (f : N → M) where
  expand-renamed : (t : Ty N) → Expand (renamed f t) ≡ renamed f (Expand t)
  unfolding Expand renamed
  expand-renamed (Primitive p) = refl
  expand-renamed (TIdentifier x) = refl
  expand-renamed (TypeFromPath p) = refl
  expand-renamed (TypeApp b ts) = refl
  expand-renamed (Borrowed t) = refl
  expand-renamed (BorrowedMut t) = refl
  expand-renamed (ImplType t) = refl
  expand-renamed (DynType t) = refl
  expand-renamed (TupleType ts) = refl
  expand-renamed (FnType ts t) = refl
  expand-renamed (IntersectionType l r) = refl
  expand-renamed (Array t s) = refl
  expand-renamed (TSynonym d b) = expand-renamed b
  expand-renamed (TMetaData d c o) = expand-renamed d

  argument-renamed : (t : Ty N) → argument 0 (renamed f t) ≡ through (renamed f) (argument 0 t)
  unfolding argument type_in renamed
  argument-renamed (Primitive p) = refl
  argument-renamed (TIdentifier x) = refl
  argument-renamed (TypeFromPath p) = refl
  argument-renamed (TypeApp b nil) = refl
  argument-renamed (TypeApp b (cons t ts)) = refl
  argument-renamed (Borrowed t) = refl
  argument-renamed (BorrowedMut t) = refl
  argument-renamed (ImplType t) = refl
  argument-renamed (DynType t) = refl
  argument-renamed (TupleType ts) = refl
  argument-renamed (FnType ts t) = refl
  argument-renamed (IntersectionType l r) = refl
  argument-renamed (Array t s) = refl
  argument-renamed (TSynonym d b) = refl
  argument-renamed (TMetaData d c o) = refl

  unsized-renamed : (t : Ty N) → unsized (renamed f t) ≡ through (renamed f) (unsized t)
  unfolding unsized renamed renamed_size
  unsized-renamed (Primitive p) = refl
  unsized-renamed (TIdentifier x) = refl
  unsized-renamed (TypeFromPath p) = refl
  unsized-renamed (TypeApp b ts) = refl
  unsized-renamed (Borrowed t) = refl
  unsized-renamed (BorrowedMut t) = refl
  unsized-renamed (ImplType t) = refl
  unsized-renamed (DynType t) = refl
  unsized-renamed (TupleType ts) = refl
  unsized-renamed (FnType ts t) = refl
  unsized-renamed (IntersectionType l r) = refl
  unsized-renamed (Array t None) = refl
  unsized-renamed (Array t (Some x)) = refl
  unsized-renamed (TSynonym d b) = refl
  unsized-renamed (TMetaData d c o) = refl

-- ---- the source's steps

-- the fixed names agree, and shapes are asked of the same tree
module _ {N M : Type 0} (f : N → M) (fixed : ℕ → N) (fixed' : ℕ → M) (same : (x : ℕ) → ltb x first_pair ≡ true → f (fixed x) ≡ fixed' x)
    (spelled : Ty N → Ty Bytes) (spelled' : Ty M → Ty Bytes) (alike : (t : Ty N) → spelled' (renamed f t) ≡ spelled t) where
  uninit-renamed : (t : Ty N) → renamed f (MaybeUninitType fixed t) ≡ MaybeUninitType fixed' (renamed f t)
  unfolding MaybeUninitType renamed renamed_path
  uninit-renamed t = rw (same std_name refl, same mem_name refl, same maybe_uninit_name refl) refl

  object-renamed : (t : Ty N) → renamed f (ObjectType fixed t) ≡ ObjectType fixed' (renamed f t)
  unfolding ObjectType renamed renamed_path
  object-renamed t = rw (same dafny_runtime_name refl, same object_name refl) refl

  ptr-renamed : (t : Ty N) → renamed f (PtrType fixed t) ≡ PtrType fixed' (renamed f t)
  unfolding PtrType renamed renamed_path
  ptr-renamed t = rw (same dafny_runtime_name refl, same ptr_name refl) refl

  applied-renamed : (a t : Ty N) → applied_to_uninit fixed' (renamed f a) (renamed f t) ≡ through (renamed f) (applied_to_uninit fixed a t)
  unfolding applied_to_uninit renamed
  applied-renamed a (Primitive p) = refl
  applied-renamed a (TIdentifier x) = refl
  applied-renamed a (TypeFromPath p) = refl
  applied-renamed a (TypeApp b ts) = ap (λ (v : Ty M). Some (TypeApp (renamed f b) (cons v nil))) (sym (uninit-renamed a))
  applied-renamed a (Borrowed t) = refl
  applied-renamed a (BorrowedMut t) = refl
  applied-renamed a (ImplType t) = refl
  applied-renamed a (DynType t) = refl
  applied-renamed a (TupleType ts) = refl
  applied-renamed a (FnType ts t) = refl
  applied-renamed a (IntersectionType l r) = refl
  applied-renamed a (Array t s) = refl
  applied-renamed a (TSynonym d b) = refl
  applied-renamed a (TMetaData d c o) = refl

  new-renamed : (s : Ty N) → new_underlying fixed' spelled' (renamed f s) ≡ through (renamed f) (new_underlying fixed spelled s)
  unfolding new_underlying and_then or_else when renamed renamed_size
  new-renamed s = rw (unsized-renamed f s, alike s, expand-renamed f s, argument-renamed f (Expand s)) (go (unsized s) (IsMultiArray (spelled s)) (argument 0 (Expand s)))
    where
      go : (u : Option (Ty N)) (b : Bool) (x : Option (Ty N))
          → or_else (and_then (through (renamed f) u) λ v. Some (Array (MaybeUninitType fixed' v) None)) (when b (and_then (through (renamed f) x) λ a. applied_to_uninit fixed' a (renamed f (Expand s))))
          ≡ through (renamed f) (or_else (and_then u λ v. Some (Array (MaybeUninitType fixed v) None)) (when b (and_then x λ a. applied_to_uninit fixed a (Expand s))))
      go (Some v) b x = ap (λ (t : Ty M). Some (Array t None)) (sym (uninit-renamed v))
      go None true (Some a) = applied-renamed a (Expand s)
      go None true None = refl
      go None false x = refl

  pub initial-renamed : (t : Ty N) → renamed f (TypeAtInitialization fixed spelled t) ≡ TypeAtInitialization fixed' spelled' (renamed f t)
  unfolding TypeAtInitialization and_then when or_this
  initial-renamed t = sym (rw (alike t, expand-renamed f t, argument-renamed f (Expand t)) (go (IsObjectOrPointer (spelled t)) (argument 0 (Expand t)) (IsObject (spelled t))))
    where
      pointed : (b : Bool) (x : Option (Ty N)) (y : Option (Ty M)) → y ≡ through (renamed f) x
          → or_this (renamed f t) (and_then y λ n. Some (pick b (ObjectType fixed' n) (PtrType fixed' n))) ≡ renamed f (or_this t (and_then x λ n. Some (pick b (ObjectType fixed n) (PtrType fixed n))))
      pointed true (Some n) y e = rw e (sym (object-renamed n))
      pointed false (Some n) y e = rw e (sym (ptr-renamed n))
      pointed b None y e = rw e refl

      go : (a : Bool) (x : Option (Ty N)) (b : Bool)
          → or_this (renamed f t) (when a (and_then (through (renamed f) x) λ s. and_then (new_underlying fixed' spelled' s) λ n. Some (pick b (ObjectType fixed' n) (PtrType fixed' n))))
          ≡ renamed f (or_this t (when a (and_then x λ s. and_then (new_underlying fixed spelled s) λ n. Some (pick b (ObjectType fixed n) (PtrType fixed n)))))
      go true (Some s) b = pointed b (new_underlying fixed spelled s) (new_underlying fixed' spelled' (renamed f s)) (new-renamed s)
      go true None b = refl
      go false x b = refl

-- ---- what the call gives

-- the bytes of a fixed name
abbrev pub fixed_bytes : ℕ → Bytes
fixed_bytes k = get_or fixed_names k []

pub initial-strings : (pairs : List ℕ) (text : Bytes) (t : Ty ℕ)
    → renamed (name_bytes pairs text) (TypeAtInitialization own_number (renamed (name_bytes pairs text)) t) ≡ TypeAtInitialization fixed_bytes (λ u. u) (renamed (name_bytes pairs text) t)
unfolding name_bytes
initial-strings pairs text t = initial-renamed (name_bytes pairs text) own_number fixed_bytes (λ x h. rw h refl) (renamed (name_bytes pairs text)) (λ u. u) (λ u. refl) t
