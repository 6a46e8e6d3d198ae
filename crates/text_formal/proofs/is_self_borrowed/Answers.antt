use Rattle.accepted_types.proofs.Accepted.{type-here}
use Rattle.text_formal.proofs.Receivers.{not-borrowed, borrow-of, self-borrowed}
use borrow.Author.Rules.{rules}
use Rattle.text_formal.proofs.is_self_borrowed.Goals as goal

pub offset_bounds-words-at : goal.offset_bounds-words-at
offset_bounds-words-at c =
    let a = c.args in
    let h = type-here a.words.now a.pairs.now a.text.now a.at c.requires.1.reads in
    search rules

pub bounds-words-at : goal.bounds-words-at
bounds-words-at c =
    let a = c.args in
    type-here a.words.now a.pairs.now a.text.now a.at c.requires.1.reads

pub returns-then-words-at : goal.returns-then-words-at
returns-then-words-at c =
    let a = c.args in
    not-borrowed a.words.now a.pairs.now a.text.now a.at c.requires.0 (search rules)

pub overflow_add-at : goal.overflow_add-at
overflow_add-at c =
    let a = c.args in
    let h = type-here a.words.now a.pairs.now a.text.now a.at c.requires.1.reads in
    search rules

pub is_self_type-requires : goal.is_self_type-requires
is_self_type-requires c =
    let a = c.args in
    let m = borrow-of a.words.now a.pairs.now a.text.now a.at c.requires.0 c.requires.1.reads (search rules) in
    record { value = m.value; end = c.requires.1.end; reads = m.reads }

pub returns : goal.returns
returns c =
    let a = c.args in
    self-borrowed a.words.now a.pairs.now a.text.now a.at c.requires.0 (search rules) c.is_self_type.ensures
