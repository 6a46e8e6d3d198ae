use Rattle.unwrap.proofs.TypesIn.{array_of, element-readable}
use Rattle.known_paths.proofs.Finding.{found-ready}
use Rattle.shapes.proofs.Parts.{element-finds, element-inside, element-none, multi-array-keeps}
use Rattle.accepted_types.proofs.Accepted.{type-here}
use borrow.Author.Rules.{rules}
use Rattle.shapes.proofs.uninit_part.Goals as goal

pub offset_bounds-words-at : goal.offset_bounds-words-at
offset_bounds-words-at c =
    let a = c.args in
    let h = type-here a.words.now a.pairs.now a.text.now a.at c.requires.1.reads in search rules

pub bounds-words-at : goal.bounds-words-at
bounds-words-at c =
    let a = c.args in
    type-here a.words.now a.pairs.now a.text.now a.at c.requires.1.reads

pub overflow_add-at : goal.overflow_add-at
overflow_add-at c =
    let a = c.args in
    let h = (array_of a.words.now a.pairs.now a.text.now a.at c.requires.1.reads c.if-words-at-eq-ARRAY.true).0 in search rules

pub first_argument-requires : goal.first_argument-requires
first_argument-requires c =
    let a = c.args in
    (c.requires.0, element-readable a.words.now a.pairs.now a.text.now a.at c.requires.1 c.if-words-at-eq-ARRAY.true)

pub returns-then-words-at-eq-ARRAY : goal.returns-then-words-at-eq-ARRAY
returns-then-words-at-eq-ARRAY c =
    let a = c.args in
    element-finds a.words.now a.pairs.now a.text.now a.at c.if-words-at-eq-ARRAY.true c.first_argument.ensures

pub multi_array_part-requires : goal.multi_array_part-requires
multi_array_part-requires c = (c.requires.0, c.requires.1)

pub returns-in_default : goal.returns-in_default
returns-in_default c =
    let a = c.args in
    element-none a.words.now a.pairs.now a.text.now a.at c.if-words-at-eq-ARRAY.false c.multi_array_part.ensures c.in_default.is

pub first_argument-requires-2 : goal.first_argument-requires-2
first_argument-requires-2 c =
    let a = c.args in
    found-ready a.words.now a.pairs.now a.text.now a.at (multi-array-keeps a.words.now a.pairs.now a.text.now) c.requires c.multi_array_part.ensures c.in-Some.is

pub returns : goal.returns
returns c =
    let a = c.args in
    element-inside a.words.now a.pairs.now a.text.now a.at c.if-words-at-eq-ARRAY.false c.multi_array_part.ensures c.in-Some.is c.first_argument-2.ensures
