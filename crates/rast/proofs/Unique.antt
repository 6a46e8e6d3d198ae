-- Two sound types have one text exactly if they are one tree, wrappers aside.
use Rattle.std.proofs.Common.{◌≡◌, T, ◌↔◌, refl}
use Rattle.rast.specs.Bytes.{Bytes}
use Rattle.rast.specs.ToString.{Type-to_string, arguments_text, comma_text, after_text}
use Rattle.rast.specs.Sound.{bare, bares, sound}
use Rattle.rast.specs.Tree.{Ty, Tys, Primitive, TIdentifier, TypeFromPath, TypeApp, Borrowed, BorrowedMut, ImplType, DynType, TupleType, FnType, IntersectionType, Array, TSynonym, TMetaData, nil, cons}
use Rattle.rast.proofs.ParserLaws.{parse-text}

-- the wrappers leave no trace in the text
mutual
  unfolding bare Type-to_string

  pub bare-text : (t : Ty Bytes) → Type-to_string (bare t) ≡ Type-to_string t
  bare-text (Primitive p) = refl
  bare-text (TIdentifier x) = refl
  bare-text (TypeFromPath p) = refl
  bare-text (TypeApp b ts) = cc (bare-text b, bare-arguments ts)
  bare-text (Borrowed t) = cc (bare-text t)
  bare-text (BorrowedMut t) = cc (bare-text t)
  bare-text (ImplType t) = cc (bare-text t)
  bare-text (DynType t) = cc (bare-text t)
  bare-text (TupleType ts) = cc (bare-comma ts)
  bare-text (FnType ts t) = cc (bare-comma ts, bare-text t)
  bare-text (IntersectionType l r) = cc (bare-text l, bare-text r)
  bare-text (Array t s) = cc (bare-text t)
  bare-text (TSynonym d b) = bare-text d
  bare-text (TMetaData d c o) = bare-text d

  bare-arguments : (ts : Tys Bytes) → arguments_text (bares ts) ≡ arguments_text ts
  bare-arguments nil = refl
  bare-arguments (cons t ts) = cc (bare-text t, bare-after ts)

  bare-comma : (ts : Tys Bytes) → comma_text (bares ts) ≡ comma_text ts
  bare-comma nil = refl
  bare-comma (cons t ts) = cc (bare-text t, bare-after ts)

  bare-after : (ts : Tys Bytes) → after_text (bares ts) ≡ after_text ts
  bare-after nil = refl
  bare-after (cons t ts) = cc (bare-text t, bare-after ts)

-- to the right by the parser, which gives back both from the one text; to the left since the wrappers do not show
pub unique : (t u : Ty Bytes) → T (sound t) → T (sound u) → (Type-to_string t ≡ Type-to_string u) ↔ (bare t ≡ bare u)
unique t u h k = (λ e. cc (parse-text t h, parse-text u k), λ e. cc (bare-text t, bare-text u))
