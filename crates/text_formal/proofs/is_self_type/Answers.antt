use Rattle.accepted_types.proofs.Accepted.{path-type, type-here}
use Rattle.text_formal.proofs.Receivers.{names-of-self, not-path, not-self}
use native.Mathlib.Omega.{arith}
use borrow.Author.Rules.{rules}
use Rattle.text_formal.proofs.is_self_type.Goals as goal

pub offset_bounds-words-at : goal.offset_bounds-words-at
offset_bounds-words-at c =
    let a = c.args in
    let h = type-here a.words.now a.pairs.now a.text.now a.at c.requires.reads in
    search rules

pub bounds-words-at : goal.bounds-words-at
bounds-words-at c =
    let a = c.args in
    type-here a.words.now a.pairs.now a.text.now a.at c.requires.reads

pub returns-then-words-at-ne-TYPE_FROM_PATH : goal.returns-then-words-at-ne-TYPE_FROM_PATH
returns-then-words-at-ne-TYPE_FROM_PATH c =
    let a = c.args in
    not-path a.words.now a.pairs.now a.text.now a.at (search rules)

pub overflow_add-at : goal.overflow_add-at
overflow_add-at c =
    let a = c.args in
    let h = type-here a.words.now a.pairs.now a.text.now a.at c.requires.reads in
    search rules

pub offset_bounds-words-at-2 : goal.offset_bounds-words-at-2
offset_bounds-words-at-2 c =
    let a = c.args in
    let h = (path-type a.words.now a.pairs.now a.text.now a.at c.requires.reads (search rules)).inside in
    search rules

pub bounds-words-at-2 : goal.bounds-words-at-2
bounds-words-at-2 c =
    let a = c.args in
    let h = (path-type a.words.now a.pairs.now a.text.now a.at c.requires.reads (search rules)).inside in
    omega arith

pub returns-then-words-at-ne-SELF_ROOT : goal.returns-then-words-at-ne-SELF_ROOT
returns-then-words-at-ne-SELF_ROOT c =
    let a = c.args in
    not-self a.words.now a.pairs.now a.text.now a.at (search rules) (search rules)

pub overflow_add-result : goal.overflow_add-result
overflow_add-result c =
    let a = c.args in
    let h = (path-type a.words.now a.pairs.now a.text.now a.at c.requires.reads (search rules)).inside in
    search rules

pub offset_bounds-words-at-3 : goal.offset_bounds-words-at-3
offset_bounds-words-at-3 c =
    let a = c.args in
    let h = (path-type a.words.now a.pairs.now a.text.now a.at c.requires.reads (search rules)).inside in
    search rules

pub bounds-words-at-3 : goal.bounds-words-at-3
bounds-words-at-3 c =
    let a = c.args in
    (path-type a.words.now a.pairs.now a.text.now a.at c.requires.reads (search rules)).inside

pub returns : goal.returns
returns c =
    let a = c.args in
    names-of-self a.words.now a.pairs.now a.text.now a.at (search rules) (search rules)
