-- The definitions of `ToString` meet the source's own equations, in which a list of types is printed by `SeqToString` and not by a mutual recursion.
use Rattle.std.proofs.Common.{◌≡◌, ℕ, suc, Bool, true, false, cond, ltb, List, [], ◌∷◌, ◌++◌, map, length, sym, refl, ap, ◌∙◌, append_assoc, append-nil}
use mathlib.Core.List.{flatten}
use lib.Dec.{leb-zero, leb-suc-suc}
use Rattle.rast.specs.Bytes.{Bytes, ascii}
use Rattle.rast.specs.ToString.{Path-to_string, Type-to_string, comma_text}
use Rattle.rast.specs.Indent.{SeqToString}
use Rattle.rast.specs.Sound.{is_empty}
use Rattle.rast.specs.DeclarationToString.{Expand, is_self_path, is_self_owned, is_self_borrowed, is_self_borrowed_mut}
use Rattle.rast.specs.Tree.{Path, Global, Crate, Self, PMemberSelect, MSels, Ty, Tys, Primitive, TIdentifier, TypeFromPath, TypeApp, Borrowed, BorrowedMut, ImplType, DynType, TupleType, FnType, IntersectionType, Array, TSynonym, TMetaData, nil, cons}
use Rattle.rast.proofs.BytesLaws.{never}

-- `seq<Type>` as a list
unfoldable pub list : {N : Type 0} → Tys N → List (Ty N)
list nil = []
list (cons t ts) = t ∷ list ts

more-than-one : (n : ℕ) → ltb 1 (suc (suc n)) ≡ true
more-than-one n = leb-suc-suc 1 (suc n) ∙ leb-suc-suc 0 n ∙ leb-zero n

-- `if |s| == 0 then "" else f(s[0]) + (if |s| > 1 then separator + SeqToString(s[1..], f, separator) else "")`
pub seq-equation : {A : Type 0} (f : A → Bytes) (separator : Bytes) (x : A) (xs : List A)
    → SeqToString f separator (x ∷ xs) ≡ f x ++ cond (ltb 1 (length (x ∷ xs))) (separator ++ SeqToString f separator xs) (ascii "")
unfolding SeqToString ascii
seq-equation f separator x [] = sym (append-nil (f x))
seq-equation f separator x (y ∷ ys) = rw (more-than-one (length ys))

-- `SeqToString(args, (arg: Type) => arg.ToString(ind + IND), ", ")`
abbrev pub seq_text : Tys Bytes → Bytes
seq_text args = SeqToString Type-to_string (ascii ", ") (list args)

pub comma-text : (ts : Tys Bytes) → comma_text ts ≡ seq_text ts
unfolding list SeqToString comma_text ascii
comma-text nil = refl
comma-text (cons t nil) = append-nil (Type-to_string t)
comma-text (cons t (cons u us)) = ap (λ x. Type-to_string t ++ (ascii ", " ++ x)) (comma-text (cons u us))

-- `case TupleType(args)`
pub tuple-text : (args : Tys Bytes) → Type-to_string (TupleType args) ≡ cond (is_empty args) (ascii "()") (ascii "(" ++ seq_text args ++ ascii ")")
unfolding Type-to_string is_empty ascii
tuple-text nil = refl
tuple-text (cons t ts) = rw (comma-text (cons t ts))

-- `case TypeApp(base, args)`
pub app-text : (base : Ty Bytes) (args : Tys Bytes) → Type-to_string (TypeApp base args) ≡ Type-to_string base ++ cond (is_empty args) (ascii "") (ascii "<" ++ seq_text args ++ ascii ">")
unfolding Type-to_string is_empty
app-text base nil = refl
app-text base (cons t ts) = rw (comma-text (cons t ts))

-- `case FnType(arguments, returnType)`
pub fn-text : (args : Tys Bytes) (ret : Ty Bytes) → Type-to_string (FnType args ret) ≡ ascii "::std::ops::Fn(" ++ seq_text args ++ ascii ") -> " ++ Type-to_string ret
unfolding Type-to_string
fn-text args ret = rw (comma-text args)

-- a path by its root and its names, as it is written
pub path-text : (p : Path Bytes) (xs : List Bytes) → Path-to_string (MSels p xs) ≡ Path-to_string p ++ flatten (map (λ x. ascii "::" ++ x) xs)
unfolding Path-to_string MSels flatten
path-text p [] = rw append-nil
path-text p (x ∷ xs) = path-text (PMemberSelect p x) xs ∙ simp append_assoc

-- ---- `Expand`, and the comparisons with `Self` in `Formal.ToString`

-- `TSynonym? || TMetaData?`
unfoldable pub is_wrapper : {N : Type 0} → Ty N → Bool
is_wrapper (Primitive p) = false
is_wrapper (TIdentifier x) = false
is_wrapper (TypeFromPath p) = false
is_wrapper (TypeApp b ts) = false
is_wrapper (Borrowed t) = false
is_wrapper (BorrowedMut t) = false
is_wrapper (ImplType t) = false
is_wrapper (DynType t) = false
is_wrapper (TupleType ts) = false
is_wrapper (FnType ts t) = false
is_wrapper (IntersectionType l r) = false
is_wrapper (Array t s) = false
is_wrapper (TSynonym d b) = true
is_wrapper (TMetaData d c o) = true

-- a law between a type and what `Expand` gives: it holds of a type that is no wrapper, and each wrapper keeps it
pub expand-by : {N : Type 0} (P : Ty N → Ty N → Type 0) → ((t : Ty N) → is_wrapper t ≡ false → P t t)
    → ((d b u : Ty N) → P b u → P (TSynonym d b) u) → ((d u : Ty N) (c o : Bool) → P d u → P (TMetaData d c o) u)
    → (t : Ty N) → P t (Expand t)
unfolding is_wrapper Expand
expand-by P h s m (Primitive p) = h (Primitive p) refl
expand-by P h s m (TIdentifier x) = h (TIdentifier x) refl
expand-by P h s m (TypeFromPath p) = h (TypeFromPath p) refl
expand-by P h s m (TypeApp b ts) = h (TypeApp b ts) refl
expand-by P h s m (Borrowed t) = h (Borrowed t) refl
expand-by P h s m (BorrowedMut t) = h (BorrowedMut t) refl
expand-by P h s m (ImplType t) = h (ImplType t) refl
expand-by P h s m (DynType t) = h (DynType t) refl
expand-by P h s m (TupleType ts) = h (TupleType ts) refl
expand-by P h s m (FnType ts t) = h (FnType ts t) refl
expand-by P h s m (IntersectionType l r) = h (IntersectionType l r) refl
expand-by P h s m (Array t n) = h (Array t n) refl
expand-by P h s m (TSynonym d b) = s d b (Expand b) (expand-by P h s m b)
expand-by P h s m (TMetaData d c o) = m d (Expand d) c o (expand-by P h s m d)

-- the `ensures` of `Expand`: what it gives is no wrapper, and a type that is none is left
pub expand-opens : {N : Type 0} (t : Ty N) → is_wrapper (Expand t) ≡ false
expand-opens = expand-by (λ t u. is_wrapper u ≡ false) (λ t h. h) (λ d b u h. h) (λ d u c o h. h)

pub expand-leaves : {N : Type 0} (t : Ty N) → is_wrapper t ≡ false → Expand t ≡ t
unfolding is_wrapper
expand-leaves = expand-by (λ t u. is_wrapper t ≡ false → u ≡ t) (λ t h e. refl) (λ d b u h e. never e) (λ d u c o h e. never e)

-- the tests say yes of these types and of no others
no : {A : Type 0} → false ≡ true → A
no e = never (sym e)

self-path : {N : Type 0} (p : Path N) → is_self_path p ≡ true → TypeFromPath p ≡ TypeFromPath Self
unfolding is_self_path
self-path Global = no
self-path Crate = no
self-path Self = λ e. refl
self-path (PMemberSelect p x) = no

self-types : {N : Type 0} (t : Ty N)
    → (is_self_owned t ≡ true → t ≡ TypeFromPath Self) × (is_self_borrowed t ≡ true → t ≡ Borrowed (TypeFromPath Self)) × (is_self_borrowed_mut t ≡ true → t ≡ BorrowedMut (TypeFromPath Self))
unfolding is_self_owned is_self_borrowed is_self_borrowed_mut
self-types (Primitive p) = (no, no, no)
self-types (TIdentifier x) = (no, no, no)
self-types (TypeFromPath p) = (self-path p, no, no)
self-types (TypeApp b ts) = (no, no, no)
self-types (Borrowed t) = (no, λ e. ap Borrowed ((self-types t).0 e), no)
self-types (BorrowedMut t) = (no, no, λ e. ap BorrowedMut ((self-types t).0 e))
self-types (ImplType t) = (no, no, no)
self-types (DynType t) = (no, no, no)
self-types (TupleType ts) = (no, no, no)
self-types (FnType ts t) = (no, no, no)
self-types (IntersectionType l r) = (no, no, no)
self-types (Array t s) = (no, no, no)
self-types (TSynonym d b) = (no, no, no)
self-types (TMetaData d c o) = (no, no, no)

pub self-owned : {N : Type 0} (t : Ty N) → is_self_owned t ≡ true → t ≡ TypeFromPath Self
self-owned t = (self-types t).0

pub self-borrowed : {N : Type 0} (t : Ty N) → is_self_borrowed t ≡ true → t ≡ Borrowed (TypeFromPath Self)
self-borrowed t = (self-types t).1

pub self-borrowed-mut : {N : Type 0} (t : Ty N) → is_self_borrowed_mut t ≡ true → t ≡ BorrowedMut (TypeFromPath Self)
self-borrowed-mut t = (self-types t).2

pub selves : (N : Type 0) → (is_self_owned {N = N} (TypeFromPath Self) ≡ true) × (is_self_borrowed {N = N} (Borrowed (TypeFromPath Self)) ≡ true) × (is_self_borrowed_mut {N = N} (BorrowedMut (TypeFromPath Self)) ≡ true)
unfolding is_self_owned is_self_path is_self_borrowed is_self_borrowed_mut
selves N = (refl, refl, refl)
