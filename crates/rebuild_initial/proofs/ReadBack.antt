-- What the call has written is an encoding that is accepted, and holds the type at initialization.
use Rattle.std.specs.Prelude.{Option, Some, None, Ok, Err}
use Prim.Native.Nat.{ℕ, ◌≤◌}
use mathlib.Core.Path.{◌≡◌, refl, sym, subst}
use mathlib.Core.Bool.{Bool, true, false}
use mathlib.Core.List.{List, [], ◌++◌}
use native.Mathlib.Omega.{arith}
use lib.ListN.{length}
use Rattle.rast.specs.Bytes.{Bytes}
use Rattle.rast.specs.Tree.{Ty, Primitive, TIdentifier, TypeFromPath, TypeApp, Borrowed, BorrowedMut, ImplType, DynType, TupleType, FnType, IntersectionType, Array, TSynonym, TMetaData, nil, cons}
use Rattle.rast.specs.DeclarationToString.{Expand}
use Rattle.encoding.specs.Words.{max_depth, first_pair}
use Rattle.encoding.specs.Refusals.{pick, Answer, map_answer}
use Rattle.encoding.specs.Tables.{check_tables, name_bytes, name_count}
use Rattle.encoding.proofs.Answers.{given-whole}
use Rattle.encoding.proofs.Tables.{impossible}
use Rattle.tree_words.specs.Encode.{names, path_tokens, tokens, tokens_all, words, encode}
use Rattle.tree_words.specs.Depths.{depth as word_depth}
use Rattle.tree_words.specs.Names.{NameBelow, NamesBelow}
use Rattle.tree_words.specs.Renamed.{renamed}
use Rattle.tree_words.specs.Numbered.{tree_at, tree_of}
use Rattle.tree_words.proofs.Names.{each-left, each-right, each-join, type-names}
use Rattle.tree_words.proofs.Renaming.{encode-words}
use Rattle.tree_words.proofs.ReadBack.{written-tree, written-type}
use Rattle.known_paths.specs.Matches.{type_in, argument, unsized}
use Rattle.known_paths.specs.Steps.{when, and_then, or_else}
use Rattle.shapes.specs.Shapes.{IsObject, IsObjectOrPointer, IsMultiArray}
use Rattle.shapes.specs.Initialization.{or_this, own_number, MaybeUninitType, ObjectType, PtrType, applied_to_uninit, new_underlying, TypeAtInitialization}
use Rattle.rebuild_spec.specs.Laying.{depth}
use Rattle.rebuild_spec.proofs.SameDepths.{same-depth}
use Rattle.rebuild_type.specs.Calls.{RebuiltWords, room_of}
use Rattle.rebuild_type.proofs.Results.{laid-result}
use Rattle.rebuild_initial.specs.Calls.{laid_init, type_initialized}
use Rattle.rebuild_initial.specs.ReadBack.{HoldsInitial, InitialReadsBack}

-- ---- the names of the type at initialization: the tree's, and fixed ones

module _ (b : ℕ) (fixed : first_pair ≤ b) where
  -- all names of a tree are in the table
  abbrev Known : Ty ℕ → Type 0
  Known t = NamesBelow b (tokens t)

  -- of a tree, if there is one
  abbrev Maybe : Option (Ty ℕ) → Type 0
  Maybe None = Unit {0}
  Maybe (Some t) = Known t

  -- a part, and what is made of it
  then-known : (x : Option (Ty ℕ)) (f : Ty ℕ → Option (Ty ℕ)) → Maybe x → ((t : Ty ℕ) → Known t → Maybe (f t)) → Maybe (and_then x f)
  unfolding and_then
  then-known None f h k = tt
  then-known (Some t) f h k = k t h

  when-known : (c : Bool) (x : Option (Ty ℕ)) → Maybe x → Maybe (when c x)
  unfolding when
  when-known true x h = h
  when-known false x h = tt

  else-known : (x y : Option (Ty ℕ)) → Maybe x → Maybe y → Maybe (or_else x y)
  unfolding or_else
  else-known None y h k = k
  else-known (Some t) y h k = h

  pick-known : (c : Bool) (t u : Ty ℕ) → Known t → Known u → Known (pick c t u)
  pick-known true t u h k = h
  pick-known false t u h k = k

  one-known : (t : Ty ℕ) → Known t → NamesBelow b (tokens_all (cons t nil))
  unfolding tokens_all
  one-known t h = each-join (NameBelow b) (tokens t) [] h tt

  expand-known : (t : Ty ℕ) → Known t → Known (Expand t)
  unfolding Expand tokens
  expand-known (Primitive p) h = h
  expand-known (TIdentifier x) h = h
  expand-known (TypeFromPath p) h = h
  expand-known (TypeApp c ts) h = h
  expand-known (Borrowed t) h = h
  expand-known (BorrowedMut t) h = h
  expand-known (ImplType t) h = h
  expand-known (DynType t) h = h
  expand-known (TupleType ts) h = h
  expand-known (FnType ts t) h = h
  expand-known (IntersectionType l r) h = h
  expand-known (Array t s) h = h
  expand-known (TSynonym d c) h = expand-known c (each-right (NameBelow b) (tokens d) (tokens c) h.1)
  expand-known (TMetaData d c o) h = expand-known d h.1.1

  argument-known : (t : Ty ℕ) → Known t → Maybe (argument 0 t)
  unfolding argument type_in tokens tokens_all
  argument-known (Primitive p) h = tt
  argument-known (TIdentifier x) h = tt
  argument-known (TypeFromPath p) h = tt
  argument-known (TypeApp c nil) h = tt
  argument-known (TypeApp c (cons t ts)) h = each-left (NameBelow b) (tokens t) (tokens_all ts) (each-right (NameBelow b) (tokens c) (tokens t ++ tokens_all ts) h.1.1)
  argument-known (Borrowed t) h = tt
  argument-known (BorrowedMut t) h = tt
  argument-known (ImplType t) h = tt
  argument-known (DynType t) h = tt
  argument-known (TupleType ts) h = tt
  argument-known (FnType ts t) h = tt
  argument-known (IntersectionType l r) h = tt
  argument-known (Array t s) h = tt
  argument-known (TSynonym d c) h = tt
  argument-known (TMetaData d c o) h = tt

  unsized-known : (t : Ty ℕ) → Known t → Maybe (unsized t)
  unfolding unsized tokens
  unsized-known (Primitive p) h = tt
  unsized-known (TIdentifier x) h = tt
  unsized-known (TypeFromPath p) h = tt
  unsized-known (TypeApp c ts) h = tt
  unsized-known (Borrowed t) h = tt
  unsized-known (BorrowedMut t) h = tt
  unsized-known (ImplType t) h = tt
  unsized-known (DynType t) h = tt
  unsized-known (TupleType ts) h = tt
  unsized-known (FnType ts t) h = tt
  unsized-known (IntersectionType l r) h = tt
  unsized-known (Array t None) h = h.1.1
  unsized-known (Array t (Some x)) h = tt
  unsized-known (TSynonym d c) h = tt
  unsized-known (TMetaData d c o) h = tt

  uninit-known : (t : Ty ℕ) → Known t → Known (MaybeUninitType own_number t)
  unfolding MaybeUninitType tokens path_tokens names
  uninit-known t h = (tt, (tt, (tt, (tt, (tt, (omega arith, (omega arith, (omega arith, one-known t h))))))))

  object-known : (t : Ty ℕ) → Known t → Known (ObjectType own_number t)
  unfolding ObjectType tokens path_tokens names
  object-known t h = (tt, (tt, (tt, (tt, (tt, (omega arith, (omega arith, one-known t h)))))))

  ptr-known : (t : Ty ℕ) → Known t → Known (PtrType own_number t)
  unfolding PtrType tokens path_tokens names
  ptr-known t h = (tt, (tt, (tt, (tt, (tt, (omega arith, (omega arith, one-known t h)))))))

  applied-known : (a : Ty ℕ) → Known a → (t : Ty ℕ) → Known t → Maybe (applied_to_uninit own_number a t)
  unfolding applied_to_uninit tokens
  applied-known a k (Primitive p) h = tt
  applied-known a k (TIdentifier x) h = tt
  applied-known a k (TypeFromPath p) h = tt
  applied-known a k (TypeApp c ts) h =
      (tt, (tt, each-join (NameBelow b) (tokens c) (tokens_all (cons (MaybeUninitType own_number a) nil)) (each-left (NameBelow b) (tokens c) (tokens_all ts) h.1.1) (one-known (MaybeUninitType own_number a) (uninit-known a k))))
  applied-known a k (Borrowed t) h = tt
  applied-known a k (BorrowedMut t) h = tt
  applied-known a k (ImplType t) h = tt
  applied-known a k (DynType t) h = tt
  applied-known a k (TupleType ts) h = tt
  applied-known a k (FnType ts t) h = tt
  applied-known a k (IntersectionType l r) h = tt
  applied-known a k (Array t s) h = tt
  applied-known a k (TSynonym d c) h = tt
  applied-known a k (TMetaData d c o) h = tt

  module _ (spelled : Ty ℕ → Ty Bytes) where
    new-known : (s : Ty ℕ) → Known s → Maybe (new_underlying own_number spelled s)
    unfolding new_underlying tokens
    new-known s h =
        else-known (and_then (unsized s) λ u. Some (Array (MaybeUninitType own_number u) None)) (when (IsMultiArray (spelled s)) (and_then (argument 0 (Expand s)) λ a. applied_to_uninit own_number a (Expand s)))
        (then-known (unsized s) _ (unsized-known s h) λ u k. (tt, (tt, uninit-known u k)))
        (when-known (IsMultiArray (spelled s)) _ (then-known (argument 0 (Expand s)) _ (argument-known (Expand s) (expand-known s h)) λ a k. applied-known a k (Expand s) (expand-known s h)))

    initial-known : (t : Ty ℕ) → Known t → Known (TypeAtInitialization own_number spelled t)
    unfolding TypeAtInitialization or_this
    initial-known t h =
        this (when (IsObjectOrPointer (spelled t)) (and_then (argument 0 (Expand t)) λ s. and_then (new_underlying own_number spelled s) λ n. Some (pick (IsObject (spelled t)) (ObjectType own_number n) (PtrType own_number n))))
        (when-known (IsObjectOrPointer (spelled t)) _
        (then-known (argument 0 (Expand t)) _ (argument-known (Expand t) (expand-known t h)) λ s k.
        then-known (new_underlying own_number spelled s) _ (new-known s k) λ n i.
        pick-known (IsObject (spelled t)) (ObjectType own_number n) (PtrType own_number n) (object-known n i) (ptr-known n i)))
      where
        this : (x : Option (Ty ℕ)) → Maybe x → Known (or_this t x)
        this None k = h
        this (Some u) k = k

-- ---- what was written

-- the tree behind an answer
record Behind {A B : Type 0} (f : A → B) (x : Answer A) (b : B) : Type 0 where
  value : A
  held : x ≡ Ok value
  made : b ≡ f value

map-given : {A B : Type 0} (f : A → B) (x : Answer A) {b : B} → map_answer f x ≡ Ok b → Behind f x b
unfolding map_answer
map-given f (Ok a) e = record { value = a; held = refl; made = cc }
map-given f (Err r) e = impossible (cc)

-- a type within the limits, as it stands at initialization
pub initial-read-back : (words pairs : List ℕ) (text : Bytes) (out : List ℕ) {b : RebuiltWords}
    → type_initialized words pairs text ≡ Ok b → b.top ≤ room_of out → b.deep ≤ max_depth → HoldsInitial words pairs text b.words
unfolding type_initialized tree_of
initial-read-back ws pairs text out {b} e l k =
    let r = map-given (laid_init (name_bytes pairs text)) (tree_of ws pairs text) e in
    let t = r.value in
    let u = TypeAtInitialization own_number (renamed (name_bytes pairs text)) t in
    let g = given-whole (check_tables ws pairs text) (length ws) (tree_at ws pairs 0) r.held in
    let known = initial-known (name_count pairs) (omega arith) (renamed (name_bytes pairs text)) t (type-names (name_count pairs) ws max_depth 0 t (length ws) g.1) in
    let within : depth u ≤ max_depth = subst (λ (x : RebuiltWords). x.deep ≤ max_depth) r.made k in
    let shallow : word_depth u ≤ max_depth = omega (arith, within, same-depth u) in
    let top : length (encode u) ≤ room_of out = subst (λ (x : RebuiltWords). x.top ≤ room_of out) r.made l in
    subst (λ (x : RebuiltWords). HoldsInitial ws pairs text x.words) (sym r.made) (record {
      tree = t;
      held = r.held;
      numbers = written-tree ws pairs text g.0 u known shallow (omega (arith, top, encode-words u));
      bytes = written-type ws pairs text g.0 u known shallow (omega (arith, top, encode-words u));
    })

pub initial-reads-back : InitialReadsBack
initial-reads-back words pairs text out n out' e =
    let r = laid-result out (type_initialized words pairs text) e in
    subst (HoldsInitial words pairs text) (sym r.words) (initial-read-back words pairs text out r.gives r.fits r.shallow)
