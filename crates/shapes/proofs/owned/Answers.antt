use Rattle.shapes.proofs.Judging.{owned-here, owned-mut, owned-ref}
use Rattle.accepted_types.proofs.Accepted.{type-here}
use borrow.Author.Rules.{rules}
use Rattle.shapes.proofs.owned.Goals as goal

pub offset_bounds-words-at : goal.offset_bounds-words-at
offset_bounds-words-at c =
    let a = c.args in
    let h = type-here a.words.now a.pairs.now a.text.now a.at c.requires.reads in search rules

pub bounds-words-at : goal.bounds-words-at
bounds-words-at c =
    let a = c.args in
    type-here a.words.now a.pairs.now a.text.now a.at c.requires.reads

pub overflow_add-result : goal.overflow_add-result
overflow_add-result c =
    let a = c.args in
    let h = type-here a.words.now a.pairs.now a.text.now a.at c.requires.reads in search rules

pub returns-then-w-eq-BORROWED : goal.returns-then-w-eq-BORROWED
returns-then-w-eq-BORROWED c =
    let a = c.args in
    owned-ref a.words.now a.pairs.now a.text.now a.at c.if-w-eq-BORROWED.true

pub overflow_add-result-then-w-eq-BORROWED_MUT : goal.overflow_add-result-then-w-eq-BORROWED_MUT
overflow_add-result-then-w-eq-BORROWED_MUT c =
    let a = c.args in
    let h = type-here a.words.now a.pairs.now a.text.now a.at c.requires.reads in search rules

pub returns-then-w-eq-BORROWED_MUT : goal.returns-then-w-eq-BORROWED_MUT
returns-then-w-eq-BORROWED_MUT c =
    let a = c.args in
    owned-mut a.words.now a.pairs.now a.text.now a.at c.if-w-eq-BORROWED_MUT.true

pub returns : goal.returns
returns c =
    let a = c.args in
    owned-here a.words.now a.pairs.now a.text.now a.at c.if-w-eq-BORROWED.false c.if-w-eq-BORROWED_MUT.false
