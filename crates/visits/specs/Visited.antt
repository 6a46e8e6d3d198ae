-- The types that `Type.Fold` and the visitor go through, in their order, each where it stands.
use Rattle.std.specs.Prelude.{ℕ, ◌+◌, Bool, true, false, List, [], ◌∷◌, ◌++◌, map}
use Rattle.rast.specs.Bytes.{Bytes}
use Rattle.rast.specs.Declaration.{Declaration}
use Rattle.rast.specs.Tree.{Ty, Tys, Primitive, TIdentifier, TypeFromPath, TypeApp, Borrowed, BorrowedMut, ImplType, DynType, TupleType, FnType, IntersectionType, Array, TSynonym, TMetaData, nil, cons}
use Rattle.encoding.specs.Refusals.{pick, Answer, map_answer}
use Rattle.encoding.specs.Forms.{present}
use Rattle.encoding.specs.Types.{type_of}
use Rattle.encoding.specs.Declarations.{declaration_of}
use Rattle.tree_words.specs.Encode.{words, words_all}
use Rattle.tree_words.specs.Places.{Place, place}
use Rattle.declaration_walk.specs.declared.Role.{Role}
use Rattle.declaration_walk.specs.declared.Role.TheVariants.{Constraint, StructField, CaseField, Aliased}
use Rattle.declaration_walk.specs.Pieces.{Piece, own, type, pieces}

-- the types of a declaration that the source's visitor goes through: all but those of a struct's fields
unfoldable pub is_entered : Role → Bool
is_entered Constraint = true
is_entered StructField = false
is_entered CaseField = true
is_entered Aliased = true

module _ {N : Type 0} where
  unfoldable mutual
    -- a type whose first word stands at p: the type, then those in it. A synonym's base is skipped.
    pub visited_from : ℕ → Ty N → List (Place N)
    visited_from p (Primitive x) = place p (Primitive x) ∷ []
    visited_from p (TIdentifier x) = place p (TIdentifier x) ∷ []
    visited_from p (TypeFromPath x) = place p (TypeFromPath x) ∷ []
    visited_from p (TypeApp b ts) = place p (TypeApp b ts) ∷ (visited_from (p + 2) b ++ visited_all (p + 2 + words b) ts)
    visited_from p (Borrowed t) = place p (Borrowed t) ∷ visited_from (p + 1) t
    visited_from p (BorrowedMut t) = place p (BorrowedMut t) ∷ visited_from (p + 1) t
    visited_from p (ImplType t) = place p (ImplType t) ∷ visited_from (p + 1) t
    visited_from p (DynType t) = place p (DynType t) ∷ visited_from (p + 1) t
    visited_from p (TupleType ts) = place p (TupleType ts) ∷ visited_all (p + 2) ts
    visited_from p (FnType ts t) = place p (FnType ts t) ∷ (visited_all (p + 2) ts ++ visited_from (p + 2 + words_all ts) t)
    visited_from p (IntersectionType l r) = place p (IntersectionType l r) ∷ (visited_from (p + 1) l ++ visited_from (p + 1 + words l) r)
    visited_from p (Array t s) = place p (Array t s) ∷ visited_from (p + 2) t
    visited_from p (TSynonym d b) = place p (TSynonym d b) ∷ visited_from (p + 1) d
    visited_from p (TMetaData d c o) = place p (TMetaData d c o) ∷ visited_from (p + 2) d

    -- types one behind the other
    pub visited_all : ℕ → Tys N → List (Place N)
    visited_all p nil = []
    visited_all p (cons t ts) = visited_from p t ++ visited_all (p + words t) ts

  unfoldable pub visited : Place N → List (Place N)
  visited q = visited_from q.at q.tpe

  -- of a run of pieces that begins at p, those types whose role is entered
  unfoldable pub visited_pieces : (Role → Bool) → ℕ → List (Piece N) → List (Place N)
  visited_pieces enters p [] = []
  visited_pieces enters p (own k ∷ ps) = visited_pieces enters (p + 1) ps
  visited_pieces enters p (type r t ∷ ps) = pick (enters r) (visited_from p t) [] ++ visited_pieces enters (p + words t) ps

  unfoldable pub visited_declaration : Declaration N → List (Place N)
  visited_declaration d = visited_pieces is_entered 0 (pieces present d)

  -- the positions alone
  abbrev pub positions : List (Place N) → List ℕ
  positions = map (λ (q : Place N). q.at)

-- the visit list of the type that an encoding holds
unfoldable pub type_visits : List ℕ → List ℕ → Bytes → Answer (List ℕ)
type_visits words pairs text = map_answer (λ t. positions (visited (place 0 t))) (type_of words pairs text)

-- and of the declaration
unfoldable pub declaration_visits : List ℕ → List ℕ → Bytes → Answer (List ℕ)
declaration_visits words pairs text = map_answer (λ d. positions (visited_declaration d)) (declaration_of words pairs text)
