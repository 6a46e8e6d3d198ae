-- Two runs of a type's words are the same when they agree word by word: names and sizes by their bytes, the other words as they are.
-- No tree is needed: what a word is follows from the words before it.
use Rattle.std.specs.Prelude.{ℕ, ◌-◌, Bool, true, false, List, [], ◌∷◌, eqb, ltb}
use Rattle.rast.specs.Bytes.{Bytes, ◌and◌, same}
use Rattle.encoding.specs.Words.{identifier_kind, from_path_kind, type_app_kind, tuple_kind, fn_kind, array_kind, meta_data_kind}
use Rattle.encoding.specs.Refusals.{pick}
use Rattle.same_type.specs.declared.Due.{Due}
use Rattle.same_type.specs.declared.Due.TheVariants.{Kind, Exact, Sized, Root, Count, Names}

-- what follows a kind
unfoldable pub after_kind : ℕ → Due
after_kind w =
    pick (eqb w identifier_kind) (Names 1) (pick (eqb w from_path_kind) Root (pick (eqb w type_app_kind) Exact (pick (eqb w tuple_kind) Exact
    (pick (eqb w fn_kind) Exact (pick (eqb w array_kind) Sized (pick (eqb w meta_data_kind) Exact Kind))))))

-- what follows a word
unfoldable pub after : Due → ℕ → Due
after Kind w = after_kind w
after Exact x = Kind
after Sized x = Kind
after Root x = Count
after Count n = pick (ltb 0 n) (Names n) Kind
after (Names n) x = pick (ltb 1 n) (Names (n - 1)) Kind

-- two words, where that is due
unfoldable pub agrees : (ℕ → Bytes) → Due → ℕ → ℕ → Bool
agrees name Kind x y = eqb x y
agrees name Exact x y = eqb x y
agrees name Sized x y = pick (eqb x 0) (eqb y 0) (pick (eqb y 0) false (same (name (x - 1)) (name (y - 1))))
agrees name Root x y = eqb x y
agrees name Count x y = eqb x y
agrees name (Names n) x y = same (name x) (name y)

unfoldable pub same_runs : (ℕ → Bytes) → Due → List ℕ → List ℕ → Bool
same_runs name due [] [] = true
same_runs name due [] (y ∷ ys) = false
same_runs name due (x ∷ xs) [] = false
same_runs name due (x ∷ xs) (y ∷ ys) = agrees name due x y and same_runs name (after due x) xs ys
