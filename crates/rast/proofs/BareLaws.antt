-- What `bare` leaves: no wrapper, and the same answers about soundness. So soundness is judged after the wrappers are gone, though its definition
-- looks at the wrapped type.
use Rattle.std.proofs.Common.{◌≡◌, Bool, true, false, T, refl}
use Rattle.rast.specs.Bytes.{Bytes, ◌and◌}
use Rattle.rast.specs.Sound.{bare, bares, is_intersection, is_named, is_empty, sound, sounds}
use Rattle.rast.specs.Tree.{Ty, Tys, Primitive, TIdentifier, TypeFromPath, TypeApp, Borrowed, BorrowedMut, ImplType, DynType, TupleType, FnType, IntersectionType, Array, TSynonym, TMetaData, nil, cons}
use Rattle.rast.proofs.BytesLaws.{and_both, both-and}

-- ---- no wrapper is left

-- neither the type nor any type in it is a synonym or metadata
unfoldable mutual
  pub wrapper_free : {N : Type 0} → Ty N → Bool
  wrapper_free (Primitive p) = true
  wrapper_free (TIdentifier x) = true
  wrapper_free (TypeFromPath p) = true
  wrapper_free (TypeApp b ts) = wrapper_free b and wrappers_free ts
  wrapper_free (Borrowed t) = wrapper_free t
  wrapper_free (BorrowedMut t) = wrapper_free t
  wrapper_free (ImplType t) = wrapper_free t
  wrapper_free (DynType t) = wrapper_free t
  wrapper_free (TupleType ts) = wrappers_free ts
  wrapper_free (FnType ts t) = wrappers_free ts and wrapper_free t
  wrapper_free (IntersectionType l r) = wrapper_free l and wrapper_free r
  wrapper_free (Array t s) = wrapper_free t
  wrapper_free (TSynonym d b) = false
  wrapper_free (TMetaData d c o) = false

  pub wrappers_free : {N : Type 0} → Tys N → Bool
  wrappers_free nil = true
  wrappers_free (cons t ts) = wrapper_free t and wrappers_free ts

mutual
  unfolding bare wrapper_free

  pub bare-free : {N : Type 0} (t : Ty N) → T (wrapper_free (bare t))
  bare-free (Primitive p) = tt
  bare-free (TIdentifier x) = tt
  bare-free (TypeFromPath p) = tt
  bare-free (TypeApp b ts) = both-and _ _ (bare-free b) (bares-free ts)
  bare-free (Borrowed t) = bare-free t
  bare-free (BorrowedMut t) = bare-free t
  bare-free (ImplType t) = bare-free t
  bare-free (DynType t) = bare-free t
  bare-free (TupleType ts) = bares-free ts
  bare-free (FnType ts t) = both-and _ _ (bares-free ts) (bare-free t)
  bare-free (IntersectionType l r) = both-and _ _ (bare-free l) (bare-free r)
  bare-free (Array t s) = bare-free t
  bare-free (TSynonym d b) = bare-free d
  bare-free (TMetaData d c o) = bare-free d

  bares-free : {N : Type 0} (ts : Tys N) → T (wrappers_free (bares ts))
  bares-free nil = tt
  bares-free (cons t ts) = both-and _ _ (bare-free t) (bares-free ts)

-- and what has none is left as it is
mutual
  unfolding bare wrapper_free

  pub free-bare : {N : Type 0} (t : Ty N) → T (wrapper_free t) → bare t ≡ t
  free-bare (Primitive p) h = refl
  free-bare (TIdentifier x) h = refl
  free-bare (TypeFromPath p) h = refl
  free-bare (TypeApp b ts) h = let k = and_both _ _ h in cc (free-bare b k.0, frees-bares ts k.1)
  free-bare (Borrowed t) h = cc (free-bare t h)
  free-bare (BorrowedMut t) h = cc (free-bare t h)
  free-bare (ImplType t) h = cc (free-bare t h)
  free-bare (DynType t) h = cc (free-bare t h)
  free-bare (TupleType ts) h = cc (frees-bares ts h)
  free-bare (FnType ts t) h = let k = and_both _ _ h in cc (frees-bares ts k.0, free-bare t k.1)
  free-bare (IntersectionType l r) h = let k = and_both _ _ h in cc (free-bare l k.0, free-bare r k.1)
  free-bare (Array t s) h = cc (free-bare t h)
  free-bare (TSynonym d b) h = absurd h
  free-bare (TMetaData d c o) h = absurd h

  frees-bares : {N : Type 0} (ts : Tys N) → T (wrappers_free ts) → bares ts ≡ ts
  frees-bares nil h = refl
  frees-bares (cons t ts) h = let k = and_both _ _ h in cc (free-bare t k.0, frees-bares ts k.1)

pub bare-bare : {N : Type 0} (t : Ty N) → bare (bare t) ≡ bare t
bare-bare t = free-bare (bare t) (bare-free t)

-- ---- soundness does not see the wrappers

shape-bare : {N : Type 0} (t : Ty N) → (is_intersection (bare t) ≡ is_intersection t) × (is_named (bare t) ≡ is_named t)
unfolding bare is_intersection is_named
shape-bare (Primitive p) = (refl, refl)
shape-bare (TIdentifier x) = (refl, refl)
shape-bare (TypeFromPath p) = (refl, refl)
shape-bare (TypeApp b ts) = (refl, refl)
shape-bare (Borrowed t) = (refl, refl)
shape-bare (BorrowedMut t) = (refl, refl)
shape-bare (ImplType t) = (refl, refl)
shape-bare (DynType t) = (refl, refl)
shape-bare (TupleType ts) = (refl, refl)
shape-bare (FnType ts t) = (refl, refl)
shape-bare (IntersectionType l r) = (refl, refl)
shape-bare (Array t s) = (refl, refl)
shape-bare (TSynonym d b) = shape-bare d
shape-bare (TMetaData d c o) = shape-bare d

pub is_intersection-bare : {N : Type 0} (t : Ty N) → is_intersection (bare t) ≡ is_intersection t
is_intersection-bare t = (shape-bare t).0

pub is_named-bare : {N : Type 0} (t : Ty N) → is_named (bare t) ≡ is_named t
is_named-bare t = (shape-bare t).1

pub is_empty-bares : {N : Type 0} (ts : Tys N) → is_empty (bares ts) ≡ is_empty ts
unfolding bares is_empty
is_empty-bares nil = refl
is_empty-bares (cons t ts) = refl

mutual
  unfolding bare sound

  pub sound-bare : (t : Ty Bytes) → sound (bare t) ≡ sound t
  sound-bare (Primitive p) = refl
  sound-bare (TIdentifier x) = refl
  sound-bare (TypeFromPath p) = refl
  sound-bare (TypeApp b ts) = cc (is_named-bare b, is_empty-bares ts, sound-bare b, sounds-bares ts)
  sound-bare (Borrowed t) = cc (is_intersection-bare t, sound-bare t)
  sound-bare (BorrowedMut t) = cc (is_intersection-bare t, sound-bare t)
  sound-bare (ImplType t) = cc (is_intersection-bare t, sound-bare t)
  sound-bare (DynType t) = cc (is_intersection-bare t, sound-bare t)
  sound-bare (TupleType ts) = sounds-bares ts
  sound-bare (FnType ts t) = cc (sounds-bares ts, is_intersection-bare t, sound-bare t)
  sound-bare (IntersectionType l r) = cc (is_intersection-bare l, sound-bare l, sound-bare r)
  sound-bare (Array t s) = cc (sound-bare t)
  sound-bare (TSynonym d b) = sound-bare d
  sound-bare (TMetaData d c o) = sound-bare d

  sounds-bares : (ts : Tys Bytes) → sounds (bares ts) ≡ sounds ts
  sounds-bares nil = refl
  sounds-bares (cons t ts) = cc (sound-bare t, sounds-bares ts)
