-- Heads by their words: their kinds, how many types follow them, where their own words end, and what is true of those that were read.
use Rattle.std.specs.Prelude.{ℕ, ◌+◌, ◌≤◌, ◌<◌, ◌≡◌, List, ltb, eqb, length, get_or}
use Rattle.encoding.specs.Words.{plain_kinds, identifier_kind, from_path_kind, type_app_kind, borrowed_kind, borrowed_mut_kind, impl_kind, dyn_kind, tuple_kind, fn_kind, intersection_kind, array_kind, synonym_kind, meta_data_kind, leaf_kinds, root_count}
use Rattle.encoding.specs.declared.PathAt.{PathAt}
use Rattle.encoding.specs.declared.Head.{Head}
use Rattle.encoding.specs.declared.Head.TheVariants.{Plain, Name, FromPath, Apply, Ref, RefMut, Impl, Dyn, Tuple, Function, Both, ArrayOf, Synonym, Meta}
use Rattle.encoding.specs.Refusals.{pick}
use Rattle.encoding.specs.Reading.{got}
use Rattle.encoding.specs.Heads.{read_head}

-- document 01's number for each head
abbrev pub head_kind : Head → ℕ
head_kind (Plain w) = w
head_kind (Name x) = identifier_kind
head_kind (FromPath p) = from_path_kind
head_kind (Apply n) = type_app_kind
head_kind Ref = borrowed_kind
head_kind RefMut = borrowed_mut_kind
head_kind Impl = impl_kind
head_kind Dyn = dyn_kind
head_kind (Tuple n) = tuple_kind
head_kind (Function n) = fn_kind
head_kind Both = intersection_kind
head_kind (ArrayOf s) = array_kind
head_kind Synonym = synonym_kind
head_kind (Meta x) = meta_data_kind

-- how many types follow a head
abbrev pub kids : Head → ℕ
kids (Plain w) = 0
kids (Name x) = 0
kids (FromPath p) = 0
kids (Apply n) = n + 1
kids Ref = 1
kids RefMut = 1
kids Impl = 1
kids Dyn = 1
kids (Tuple n) = n
kids (Function n) = n + 1
kids Both = 2
kids (ArrayOf s) = 1
kids Synonym = 2
kids (Meta x) = 1

-- a head was read at a position, whichever names there are
pub record HeadHere (ws : List ℕ) (at : ℕ) : Type 0 where
  pub bound : ℕ
  pub head : Head
  pub next : ℕ
  pub reads : read_head bound ws at ≡ got head next

-- how many types follow such a head, by its words: `kids` (`words-kids`)
unfoldable pub types_below : List ℕ → ℕ → ℕ
types_below ws at =
    pick (ltb (get_or ws at 0) leaf_kinds) 0
    (pick (eqb (get_or ws at 0) type_app_kind) (get_or ws (at + 1) 0 + 1)
    (pick (eqb (get_or ws at 0) tuple_kind) (get_or ws (at + 1) 0)
    (pick (eqb (get_or ws at 0) fn_kind) (get_or ws (at + 1) 0 + 1)
    (pick (eqb (get_or ws at 0) intersection_kind) 2
    (pick (eqb (get_or ws at 0) synonym_kind) 2 1)))))

-- where its own words end, likewise (`words-end`)
unfoldable pub own_end : List ℕ → ℕ → ℕ
own_end ws at =
    pick (eqb (get_or ws at 0) identifier_kind) (at + 2)
    (pick (eqb (get_or ws at 0) from_path_kind) (at + 3 + get_or ws (at + 2) 0)
    (pick (eqb (get_or ws at 0) type_app_kind) (at + 2)
    (pick (eqb (get_or ws at 0) tuple_kind) (at + 2)
    (pick (eqb (get_or ws at 0) fn_kind) (at + 2)
    (pick (eqb (get_or ws at 0) array_kind) (at + 2)
    (pick (eqb (get_or ws at 0) meta_data_kind) (at + 2) (at + 1)))))))

-- what is true of a path that was read: its root is one of three, and its names stand within the words and are names
pub record InsidePath (bound : ℕ) (ws : List ℕ) (p : PathAt) : Type 0 where
  pub root : p.root < root_count
  pub inside : p.start + p.count ≤ length ws
  pub below : (i : ℕ) → p.start ≤ i → i < p.start + p.count → get_or ws i 0 < bound

-- what is true of a head that was read
abbrev pub InsideHead : ℕ → List ℕ → Head → Type 0
InsideHead bound ws (Plain w) = w < plain_kinds
InsideHead bound ws (Name x) = x < bound
InsideHead bound ws (FromPath p) = InsidePath bound ws p
InsideHead bound ws (Apply n) = Unit {0}
InsideHead bound ws Ref = Unit {0}
InsideHead bound ws RefMut = Unit {0}
InsideHead bound ws Impl = Unit {0}
InsideHead bound ws Dyn = Unit {0}
InsideHead bound ws (Tuple n) = Unit {0}
InsideHead bound ws (Function n) = Unit {0}
InsideHead bound ws Both = Unit {0}
InsideHead bound ws (ArrayOf s) = s < bound + 1
InsideHead bound ws Synonym = Unit {0}
InsideHead bound ws (Meta x) = Unit {0}
