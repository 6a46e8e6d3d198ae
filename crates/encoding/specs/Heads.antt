-- A type's head: its kind with the words of its own, as document 01 lists them.
use Rattle.std.specs.Prelude.{ℕ, ◌+◌, List, ltb, eqb}
use Rattle.encoding.specs.Words.{plain_kinds, identifier_kind, from_path_kind, type_app_kind, borrowed_kind, borrowed_mut_kind, impl_kind, dyn_kind, tuple_kind, fn_kind, intersection_kind, array_kind, synonym_kind, meta_data_kind, flag_count, root_count}
use Rattle.encoding.specs.declared.Refusal.TheVariants.{UnknownWord}
use Rattle.encoding.specs.declared.PathAt.{PathAt}
use Rattle.encoding.specs.declared.Head.{Head}
use Rattle.encoding.specs.declared.Head.TheVariants.{Plain, Name, FromPath, Apply, Ref, RefMut, Impl, Dyn, Tuple, Function, Both, ArrayOf, Synonym, Meta}
use Rattle.encoding.specs.Refusals.{pick}
use Rattle.encoding.specs.Reading.{Reading, got, stop, ◌>>=◌, read_word, read_below, read_names}

-- a path: its root, how many names, and the names; it is kept by the place of its names
unfoldable pub read_path : ℕ → List ℕ → ℕ → Reading PathAt
read_path bound ws at =
    read_below root_count ws at >>= λ root p. read_word ws p >>= λ n q. read_names bound ws n q >>= λ u r.
    got (record { root = root; start = q; count = n }) r

unfoldable pub path_head : ℕ → List ℕ → ℕ → Reading Head
path_head bound ws p = read_path bound ws p >>= λ x q. got (FromPath x) q

-- what follows the kind w
unfoldable pub head_after : ℕ → List ℕ → ℕ → ℕ → Reading Head
head_after bound ws w p =
    pick (ltb w plain_kinds) (got (Plain w) p)
    (pick (eqb w identifier_kind) (read_below bound ws p >>= λ x q. got (Name x) q)
    (pick (eqb w from_path_kind) (path_head bound ws p)
    (pick (eqb w type_app_kind) (read_word ws p >>= λ n q. got (Apply n) q)
    (pick (eqb w borrowed_kind) (got Ref p)
    (pick (eqb w borrowed_mut_kind) (got RefMut p)
    (pick (eqb w impl_kind) (got Impl p)
    (pick (eqb w dyn_kind) (got Dyn p)
    (pick (eqb w tuple_kind) (read_word ws p >>= λ n q. got (Tuple n) q)
    (pick (eqb w fn_kind) (read_word ws p >>= λ n q. got (Function n) q)
    (pick (eqb w intersection_kind) (got Both p)
    (pick (eqb w array_kind) (read_below (bound + 1) ws p >>= λ s q. got (ArrayOf s) q)
    (pick (eqb w synonym_kind) (got Synonym p)
    (pick (eqb w meta_data_kind) (read_below flag_count ws p >>= λ x q. got (Meta x) q)
    (stop UnknownWord))))))))))))))

unfoldable pub read_head : ℕ → List ℕ → ℕ → Reading Head
read_head bound ws at = read_word ws at >>= λ w p. head_after bound ws w p
