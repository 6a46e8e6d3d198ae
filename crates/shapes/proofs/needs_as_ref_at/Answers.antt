use Rattle.unwrap.proofs.TypesIn.{ref-readable}
use Rattle.shapes.proofs.Judging.{judge-needs, judge-needs-ref}
use Rattle.accepted_types.proofs.Accepted.{type-here}
use borrow.Author.Rules.{rules}
use Rattle.shapes.proofs.needs_as_ref_at.Goals as goal

pub offset_bounds-words-at : goal.offset_bounds-words-at
offset_bounds-words-at c =
    let a = c.args in
    let h = type-here a.words.now a.pairs.now a.text.now a.at c.requires.1.reads in search rules

pub bounds-words-at : goal.bounds-words-at
bounds-words-at c =
    let a = c.args in
    type-here a.words.now a.pairs.now a.text.now a.at c.requires.1.reads

pub overflow_add-at : goal.overflow_add-at
overflow_add-at c =
    let a = c.args in
    let h = type-here a.words.now a.pairs.now a.text.now a.at c.requires.1.reads in search rules

pub is_box_or_rc-requires : goal.is_box_or_rc-requires
is_box_or_rc-requires c =
    let a = c.args in
    (c.requires.0, ref-readable a.words.now a.pairs.now a.text.now a.at c.requires.1 c.if-words-at-eq-BORROWED.true)

pub returns-then-words-at-eq-BORROWED : goal.returns-then-words-at-eq-BORROWED
returns-then-words-at-eq-BORROWED c =
    let a = c.args in
    judge-needs-ref a.words.now a.pairs.now a.text.now a.at c.if-words-at-eq-BORROWED.true c.is_box_or_rc.ensures

pub is_box_or_rc-requires-2 : goal.is_box_or_rc-requires-2
is_box_or_rc-requires-2 c = (c.requires.0, c.requires.1)

pub returns : goal.returns
returns c =
    let a = c.args in
    judge-needs a.words.now a.pairs.now a.text.now a.at c.if-words-at-eq-BORROWED.false c.is_box_or_rc-2.ensures
