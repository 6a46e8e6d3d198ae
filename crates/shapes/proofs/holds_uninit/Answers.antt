use Rattle.known_paths.specs.declared.Class.TheVariants.{ArrayClass}
use Rattle.unwrap.proofs.TypesIn.{array_of, element-readable}
use Rattle.known_paths.proofs.Finding.{first-keeps, found-ready}
use Rattle.shapes.proofs.Judging.{judge-multi, judge-no-array, judge-sized, judge-unsized}
use Rattle.accepted_types.proofs.Accepted.{type-here}
use borrow.Author.Rules.{rules}
use Rattle.shapes.proofs.holds_uninit.Goals as goal

pub offset_bounds-words-at : goal.offset_bounds-words-at
offset_bounds-words-at c =
    let a = c.args in
    let h = type-here a.words.now a.pairs.now a.text.now a.at c.requires.1.reads in search rules

pub bounds-words-at : goal.bounds-words-at
bounds-words-at c =
    let a = c.args in
    type-here a.words.now a.pairs.now a.text.now a.at c.requires.1.reads

pub overflow_add-at : goal.overflow_add-at
overflow_add-at c =
    let a = c.args in
    let h = (array_of a.words.now a.pairs.now a.text.now a.at c.requires.1.reads c.if-words-at-eq-ARRAY.true).0 in search rules

pub offset_bounds-words-at-then-words-at-eq-ARRAY : goal.offset_bounds-words-at-then-words-at-eq-ARRAY
offset_bounds-words-at-then-words-at-eq-ARRAY c =
    let a = c.args in
    let h = (array_of a.words.now a.pairs.now a.text.now a.at c.requires.1.reads c.if-words-at-eq-ARRAY.true).0 in search rules

pub bounds-words-at-then-words-at-eq-ARRAY : goal.bounds-words-at-then-words-at-eq-ARRAY
bounds-words-at-then-words-at-eq-ARRAY c =
    let a = c.args in
    (array_of a.words.now a.pairs.now a.text.now a.at c.requires.1.reads c.if-words-at-eq-ARRAY.true).0

pub overflow_add-at-then-words-at-eq0 : goal.overflow_add-at-then-words-at-eq0
overflow_add-at-then-words-at-eq0 c =
    let a = c.args in
    let h = (array_of a.words.now a.pairs.now a.text.now a.at c.requires.1.reads c.if-words-at-eq-ARRAY.true).0 in search rules

pub is_of-requires : goal.is_of-requires
is_of-requires c =
    let a = c.args in
    (c.requires.0, element-readable a.words.now a.pairs.now a.text.now a.at c.requires.1 c.if-words-at-eq-ARRAY.true)

pub returns-then-words-at-eq0 : goal.returns-then-words-at-eq0
returns-then-words-at-eq0 c =
    let a = c.args in
    judge-unsized a.words.now a.pairs.now a.text.now a.at c.if-words-at-eq-ARRAY.true c.if-words-at-eq0.true c.is_of.ensures

pub returns-then-words-at-eq-ARRAY : goal.returns-then-words-at-eq-ARRAY
returns-then-words-at-eq-ARRAY c =
    let a = c.args in
    judge-sized a.words.now a.pairs.now a.text.now a.at c.if-words-at-eq-ARRAY.true c.if-words-at-eq0.false

pub first_argument-requires : goal.first_argument-requires
first_argument-requires c = (c.requires.0, c.requires.1)

pub returns-in_default : goal.returns-in_default
returns-in_default c =
    let a = c.args in
    judge-no-array a.words.now a.pairs.now a.text.now a.at c.if-words-at-eq-ARRAY.false c.first_argument.ensures c.in_default.is

pub is_of-requires-2 : goal.is_of-requires-2
is_of-requires-2 c =
    let a = c.args in
    found-ready a.words.now a.pairs.now a.text.now a.at (first-keeps a.words.now a.pairs.now a.text.now ArrayClass) c.requires c.first_argument.ensures c.in-Some.is

pub returns : goal.returns
returns c =
    let a = c.args in
    judge-multi a.words.now a.pairs.now a.text.now a.at c.if-words-at-eq-ARRAY.false c.first_argument.ensures c.in-Some.is c.is_of-2.ensures
