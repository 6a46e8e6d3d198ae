use Rattle.known_paths.specs.declared.Class.TheVariants.{Boxed}
use Rattle.known_paths.proofs.Finding.{first-keeps, found_here}
use Rattle.shapes.proofs.Parts.{box-dyn-finds, box-dyn-none, box-dyn-other}
use borrow.Author.Rules.{rules}
use Rattle.shapes.proofs.box_dyn_part.Goals as goal

pub returns-in_default : goal.returns-in_default
returns-in_default c =
    let a = c.args in
    box-dyn-none a.words.now a.pairs.now a.text.now a.at c.first_argument.ensures c.in_default.is

pub offset_bounds-words-place : goal.offset_bounds-words-place
offset_bounds-words-place c =
    let a = c.args in
    let h = found_here a.words.now a.pairs.now a.text.now a.at (first-keeps a.words.now a.pairs.now a.text.now Boxed) c.requires.1 c.first_argument.ensures c.in-Some.is in search rules

pub bounds-words-place : goal.bounds-words-place
bounds-words-place c =
    let a = c.args in
    found_here a.words.now a.pairs.now a.text.now a.at (first-keeps a.words.now a.pairs.now a.text.now Boxed) c.requires.1 c.first_argument.ensures c.in-Some.is

pub overflow_add-result : goal.overflow_add-result
overflow_add-result c =
    let a = c.args in
    let h = found_here a.words.now a.pairs.now a.text.now a.at (first-keeps a.words.now a.pairs.now a.text.now Boxed) c.requires.1 c.first_argument.ensures c.in-Some.is in search rules

pub returns-then-words-place-eq-DYN_TYPE : goal.returns-then-words-place-eq-DYN_TYPE
returns-then-words-place-eq-DYN_TYPE c =
    let a = c.args in
    box-dyn-finds a.words.now a.pairs.now a.text.now a.at c.first_argument.ensures c.in-Some.is c.if-words-place-eq-DYN_TYPE.true

pub returns : goal.returns
returns c =
    let a = c.args in
    box-dyn-other a.words.now a.pairs.now a.text.now a.at c.first_argument.ensures c.in-Some.is c.if-words-place-eq-DYN_TYPE.false
