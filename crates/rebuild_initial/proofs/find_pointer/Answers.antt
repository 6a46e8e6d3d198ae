use Rattle.std.proofs.Common.{sym, refl, ◌∙◌, arith, rules}
use Rattle.rast.specs.Bytes.{ascii}
use Rattle.encoding.specs.Tables.{fixed_names}
use Rattle.rebuild_initial.proofs.Pointers.{neither-here, none_here, object-here, pointer-here}
use Rattle.rebuild_initial.proofs.Changes.{expanded-readable, type-readable}
use Rattle.rebuild_initial.proofs.find_pointer.Goals as goal

pub expand-place-requires : goal.expand-place-requires
expand-place-requires c =
    let s = c in let a = s.args in type-readable a.words.now a.pairs.now a.text.now 0 s.requires.1

pub is_of_runtime-requires : goal.is_of_runtime-requires
is_of_runtime-requires c =
    let s = c in let a = s.args in (s.requires.0, expanded-readable a.words.now a.pairs.now a.text.now 0 s.requires.1 c.expand-place.ensures)

pub returns-then-not-is_of_runtime : goal.returns-then-not-is_of_runtime
returns-then-not-is_of_runtime c =
    let s = c in let a = s.args in
    none_here a.words.now a.pairs.now a.text.now s.requires.1 _ c.expand-place.ensures c.is_of_runtime.ensures c.if-not-is_of_runtime.true

pub overflow_add-member : goal.overflow_add-member
overflow_add-member c = let h = c.is_of_runtime.ensures.inside c.if-not-is_of_runtime.false in search rules

pub offset_bounds-words-place : goal.offset_bounds-words-place
offset_bounds-words-place c = let h = c.is_of_runtime.ensures.inside c.if-not-is_of_runtime.false in search rules

pub bounds-words-place : goal.bounds-words-place
bounds-words-place c = c.is_of_runtime.ensures.inside c.if-not-is_of_runtime.false

pub is_name-requires : goal.is_name-requires
unfolding ascii fixed_names
is_name-requires c = (c.is_of_runtime.ensures.below c.if-not-is_of_runtime.false, c.requires.0, omega arith, refl)

pub overflow_add-result : goal.overflow_add-result
overflow_add-result c = let h = c.is_of_runtime.ensures.inside c.if-not-is_of_runtime.false in search rules

pub returns-then-is_name : goal.returns-then-is_name
unfolding fixed_names
returns-then-is_name c =
    let s = c in let a = s.args in
    object-here a.words.now a.pairs.now a.text.now s.requires.1 _ c.expand-place.ensures c.is_of_runtime.ensures c.if-not-is_of_runtime.false (sym c.is_name.ensures ∙ c.if-is_name.true) c.object_name.ensures

pub is_name-requires-2 : goal.is_name-requires-2
unfolding ascii fixed_names
is_name-requires-2 c = (c.is_of_runtime.ensures.below c.if-not-is_of_runtime.false, c.requires.0, omega arith, refl)

pub overflow_add-result-then-is_name-2 : goal.overflow_add-result-then-is_name-2
overflow_add-result-then-is_name-2 c = let h = c.is_of_runtime.ensures.inside c.if-not-is_of_runtime.false in search rules

pub returns-then-is_name-2 : goal.returns-then-is_name-2
unfolding fixed_names
returns-then-is_name-2 c =
    let s = c in let a = s.args in
    pointer-here a.words.now a.pairs.now a.text.now s.requires.1 _ c.expand-place.ensures c.is_of_runtime.ensures c.if-not-is_of_runtime.false (sym c.is_name.ensures ∙ c.if-is_name.false) (sym c.is_name-2.ensures ∙ c.if-is_name-2.true)

pub returns : goal.returns
unfolding fixed_names
returns c =
    let s = c in let a = s.args in
    neither-here a.words.now a.pairs.now a.text.now s.requires.1 _ c.expand-place.ensures c.is_of_runtime.ensures c.if-not-is_of_runtime.false (sym c.is_name.ensures ∙ c.if-is_name.false) (sym c.is_name-2.ensures ∙ c.if-is_name-2.false)
