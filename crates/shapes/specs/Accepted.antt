-- Whether a type is accepted, and what the functions on an accepted type answer.
use Rattle.encoding.specs.declared.Refusal.{Refusal}
use Rattle.std.specs.Prelude.{Ok, Err, Result, ℕ, Bool, eqb, ltb}
use Rattle.rast.specs.Bytes.{◌or◌}
use Rattle.encoding.specs.Words.{identifier_kind, from_path_kind, borrowed_kind, borrowed_mut_kind, impl_kind, dyn_kind, synonym_kind, meta_data_kind}
use Rattle.encoding.specs.Refusals.{pick, Answer}

-- how many own words stand before the type that `EndsWithNameThatCanAcceptGenerics` goes on to, by a type's kind; an intersection aside
unfoldable pub name_step : ℕ → ℕ
name_step k =
    pick (eqb k borrowed_kind) 1 (pick (eqb k borrowed_mut_kind) 1 (pick (eqb k impl_kind) 1 (pick (eqb k dyn_kind) 1 (pick (eqb k synonym_kind) 1 (pick (eqb k meta_data_kind) 2 0)))))

-- the kinds of which it is true outright: numbers of fixed size and names
unfoldable pub name_kind : ℕ → Bool
name_kind k = ltb k 10 or eqb k identifier_kind or eqb k from_path_kind

-- whether there is an answer
abbrev pub acceptance : {A : Type 0} → Answer A → Result (Unit {0}) Refusal
acceptance (Ok a) = Ok tt
acceptance (Err r) = Err r
