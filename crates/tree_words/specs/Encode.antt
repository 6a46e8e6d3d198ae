-- Document 01's word format: the words of a path and of a type.
use Rattle.std.specs.Prelude.{Option, Some, None, ℕ, suc, Bool, true, false, List, [], ◌∷◌, ◌++◌, map, length}
use Rattle.rast.specs.Tree.{Path, Global, Crate, Self, PMemberSelect, PrimitiveTy, U8, U16, U32, U64, U128, I8, I16, I32, I64, I128, USIZE, Bool·, Ty, Tys, Primitive, TIdentifier, TypeFromPath, TypeApp, Borrowed, BorrowedMut, ImplType, DynType, TupleType, FnType, IntersectionType, Array, TSynonym, TMetaData, nil, cons, count}
use Rattle.encoding.specs.Words.{identifier_kind, from_path_kind, type_app_kind, borrowed_kind, borrowed_mut_kind, impl_kind, dyn_kind, tuple_kind, fn_kind, intersection_kind, array_kind, synonym_kind, meta_data_kind, global_root, crate_root, self_root}

-- one word: a number, a name, or an array's size
pub data Token (N : Type 0) : Type 0 where
  word : ℕ → Token N
  name : N → Token N
  size : Option N → Token N

-- the word that is written: a name by its number, a size by its name's number plus 1, no size by 0
unfoldable pub token_word : Token ℕ → ℕ
token_word (word k) = k
token_word (name x) = x
token_word (size None) = 0
token_word (size (Some x)) = suc x

-- kinds 0 to 11
unfoldable pub primitive_word : PrimitiveTy → ℕ
primitive_word U8 = 0
primitive_word U16 = 1
primitive_word U32 = 2
primitive_word U64 = 3
primitive_word U128 = 4
primitive_word I8 = 5
primitive_word I16 = 6
primitive_word I32 = 7
primitive_word I64 = 8
primitive_word I128 = 9
primitive_word USIZE = 10
primitive_word Bool· = 11

-- flags: 1 copySemantics, 2 overflow
unfoldable pub flags_word : Bool → Bool → ℕ
flags_word false false = 0
flags_word true false = 1
flags_word false true = 2
flags_word true true = 3

module _ {N : Type 0} where
  -- the first word of a path: 0 Global, 1 Crate, 2 Self
  unfoldable pub root_word : Path N → ℕ
  root_word Global = global_root
  root_word Crate = crate_root
  root_word Self = self_root
  root_word (PMemberSelect p x) = root_word p

  -- its names
  unfoldable pub names : Path N → List N
  names Global = []
  names Crate = []
  names Self = []
  names (PMemberSelect p x) = names p ++ (x ∷ [])

  -- Path: 0, 1 or 2; n; n names
  unfoldable pub path_tokens : Path N → List (Token N)
  path_tokens p = word (root_word p) ∷ word (length (names p)) ∷ map name (names p)

  -- a tree is written head first, its children in order
  unfoldable mutual
    pub tokens : Ty N → List (Token N)
    tokens (Primitive p) = word (primitive_word p) ∷ []
    tokens (TIdentifier x) = word identifier_kind ∷ name x ∷ []
    tokens (TypeFromPath p) = word from_path_kind ∷ path_tokens p
    tokens (TypeApp b ts) = word type_app_kind ∷ word (count ts) ∷ (tokens b ++ tokens_all ts)
    tokens (Borrowed t) = word borrowed_kind ∷ tokens t
    tokens (BorrowedMut t) = word borrowed_mut_kind ∷ tokens t
    tokens (ImplType t) = word impl_kind ∷ tokens t
    tokens (DynType t) = word dyn_kind ∷ tokens t
    tokens (TupleType ts) = word tuple_kind ∷ word (count ts) ∷ tokens_all ts
    tokens (FnType ts t) = word fn_kind ∷ word (count ts) ∷ (tokens_all ts ++ tokens t)
    tokens (IntersectionType l r) = word intersection_kind ∷ (tokens l ++ tokens r)
    tokens (Array t s) = word array_kind ∷ size s ∷ tokens t
    tokens (TSynonym d b) = word synonym_kind ∷ (tokens d ++ tokens b)
    tokens (TMetaData d c o) = word meta_data_kind ∷ word (flags_word c o) ∷ tokens d

    pub tokens_all : Tys N → List (Token N)
    tokens_all nil = []
    tokens_all (cons t ts) = tokens t ++ tokens_all ts

  -- how many words a type takes
  unfoldable pub words : Ty N → ℕ
  words t = length (tokens t)

  unfoldable pub words_all : Tys N → ℕ
  words_all ts = length (tokens_all ts)

-- the encoding of a type, names by their numbers
unfoldable pub encode : Ty ℕ → List ℕ
encode t = map token_word (tokens t)
