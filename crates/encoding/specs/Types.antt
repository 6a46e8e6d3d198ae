-- The tree that an encoding holds.
use Rattle.std.specs.Prelude.{Option, Some, None, ℕ, zero, suc, ◌-◌, ◌%◌, List, [], ◌∷◌, map, eqb, leb, length, get_or, take, drop}
use Rattle.rast.specs.Bytes.{Bytes}
use Rattle.rast.specs.Tree.{Path, Global, Crate, Self, MSels, PrimitiveTy, U8, U16, U32, U64, U128, I8, I16, I32, I64, I128, USIZE, Bool·, Ty, Tys, Primitive, TIdentifier, TypeFromPath, TypeApp, Borrowed, BorrowedMut, ImplType, DynType, TupleType, FnType, IntersectionType, Array, TSynonym, TMetaData, nil, cons}
use Rattle.encoding.specs.Words.{max_depth, global_root, crate_root}
use Rattle.encoding.specs.declared.Refusal.TheVariants.{TooDeep}
use Rattle.encoding.specs.declared.PathAt.{PathAt}
use Rattle.encoding.specs.declared.Head.{Head}
use Rattle.encoding.specs.declared.Head.TheVariants.{Plain, Name, FromPath, Apply, Ref, RefMut, Impl, Dyn, Tuple, Function, Both, ArrayOf, Synonym, Meta}
use Rattle.encoding.specs.Refusals.{pick, Answer, map_answer, unless}
use Rattle.encoding.specs.Reading.{Reading, got, stop, ◌>>=◌, whole}
use Rattle.encoding.specs.Tables.{check_tables, name_bytes, name_count}
use Rattle.encoding.specs.Heads.{read_path, read_head}

-- kinds 0 to 11
unfoldable pub primitives : List PrimitiveTy
primitives = U8 ∷ U16 ∷ U32 ∷ U64 ∷ U128 ∷ I8 ∷ I16 ∷ I32 ∷ I64 ∷ I128 ∷ USIZE ∷ Bool· ∷ []

-- 0 Global, 1 Crate, 2 Self
unfoldable pub root_of : {N : Type 0} → ℕ → Path N
root_of r = pick (eqb r global_root) Global (pick (eqb r crate_root) Crate Self)

unfoldable pub path_of : {N : Type 0} → List ℕ → (ℕ → N) → PathAt → Path N
path_of ws name p = MSels (root_of p.root) (map name (take p.count (drop p.start ws)))

-- 0 for no size, else a name's number plus 1
unfoldable pub size_of : {N : Type 0} → (ℕ → N) → ℕ → Option N
size_of name s = pick (eqb s 0) None (Some (name (s - 1)))

-- n types, each read by `again`
unfoldable pub read_types : {N : Type 0} → (ℕ → Reading (Ty N)) → ℕ → ℕ → Reading (Tys N)
read_types again zero p = got nil p
read_types again (suc n) p = again p >>= λ t q. read_types again n q >>= λ ts r. got (cons t ts) r

-- the type of a head whose own words end at p: its parts are read by `again`, in the order that document 01 gives.
-- Of the flags 1 is `copySemantics` and 2 is `overflow`.
unfoldable pub read_node : {N : Type 0} → List ℕ → (ℕ → N) → (ℕ → Reading (Ty N)) → Head → ℕ → Reading (Ty N)
read_node ws name again (Plain w) p = got (Primitive (get_or primitives w U8)) p
read_node ws name again (Name x) p = got (TIdentifier (name x)) p
read_node ws name again (FromPath x) p = got (TypeFromPath (path_of ws name x)) p
read_node ws name again (Apply n) p = again p >>= λ b q. read_types again n q >>= λ ts r. got (TypeApp b ts) r
read_node ws name again Ref p = again p >>= λ t q. got (Borrowed t) q
read_node ws name again RefMut p = again p >>= λ t q. got (BorrowedMut t) q
read_node ws name again Impl p = again p >>= λ t q. got (ImplType t) q
read_node ws name again Dyn p = again p >>= λ t q. got (DynType t) q
read_node ws name again (Tuple n) p = read_types again n p >>= λ ts q. got (TupleType ts) q
read_node ws name again (Function n) p = read_types again n p >>= λ ts q. again q >>= λ t r. got (FnType ts t) r
read_node ws name again Both p = again p >>= λ l q. again q >>= λ t r. got (IntersectionType l t) r
read_node ws name again (ArrayOf s) p = again p >>= λ t q. got (Array t (size_of name s)) q
read_node ws name again Synonym p = again p >>= λ d q. again q >>= λ b r. got (TSynonym d b) r
read_node ws name again (Meta x) p = again p >>= λ d q. got (TMetaData d (eqb (x % 2) 1) (leb 2 x)) q

-- a type at a position, at most `deep` types deep
unfoldable pub read_type : {N : Type 0} → ℕ → List ℕ → (ℕ → N) → ℕ → ℕ → Reading (Ty N)
read_type bound ws name zero at = stop TooDeep
read_type bound ws name (suc deep) at = read_head bound ws at >>= λ h p. read_node ws name (read_type bound ws name deep) h p

-- the type that stands at a position of an encoding
abbrev pub type_at : List ℕ → List ℕ → Bytes → ℕ → Reading (Ty Bytes)
type_at ws pairs text at = read_type (name_count pairs) ws (name_bytes pairs text) max_depth at

-- the type that an encoding holds, and the path
unfoldable pub type_of : List ℕ → List ℕ → Bytes → Answer (Ty Bytes)
type_of words pairs text = unless (check_tables words pairs text) (whole (length words) (type_at words pairs text 0))

unfoldable pub path_in : List ℕ → List ℕ → Bytes → Answer (Path Bytes)
path_in words pairs text =
    unless (check_tables words pairs text)
    (map_answer (path_of words (name_bytes pairs text)) (whole (length words) (read_path (name_count pairs) words 0)))
