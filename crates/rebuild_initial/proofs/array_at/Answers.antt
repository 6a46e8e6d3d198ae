use Rattle.std.proofs.Common.{refl, rules}
use Rattle.tree_words.proofs.Heads.{tree-here}
use Rattle.known_paths.proofs.Worded.{word-here}
use Rattle.rebuild_initial.proofs.Changes.{expanded-readable, new-no-part, new-part, new-sized, new-unsized, no-application, size-here, type-readable}
use Rattle.rebuild_initial.proofs.array_at.Goals as goal

pub offset_bounds-words-at : goal.offset_bounds-words-at
offset_bounds-words-at c = let s = c in let a = s.args in let h = tree-here a.words.now a.pairs.now a.at s.requires.1.reads in search rules

pub bounds-words-at : goal.bounds-words-at
bounds-words-at c = let s = c in let a = s.args in tree-here a.words.now a.pairs.now a.at s.requires.1.reads

pub overflow_add-at : goal.overflow_add-at
overflow_add-at c = let s = c in let a = s.args in let h = size-here a.words.now a.pairs.now a.text.now a.at s.requires.1 c.if-words-at-eq-ARRAY.true in search rules

pub offset_bounds-words-at-then-words-at-eq-ARRAY : goal.offset_bounds-words-at-then-words-at-eq-ARRAY
offset_bounds-words-at-then-words-at-eq-ARRAY c = let s = c in let a = s.args in let h = size-here a.words.now a.pairs.now a.text.now a.at s.requires.1 c.if-words-at-eq-ARRAY.true in search rules

pub bounds-words-at-then-words-at-eq-ARRAY : goal.bounds-words-at-then-words-at-eq-ARRAY
bounds-words-at-then-words-at-eq-ARRAY c = let s = c in let a = s.args in size-here a.words.now a.pairs.now a.text.now a.at s.requires.1 c.if-words-at-eq-ARRAY.true

pub overflow_add-result : goal.overflow_add-result
overflow_add-result c = let s = c in let a = s.args in let h = size-here a.words.now a.pairs.now a.text.now a.at s.requires.1 c.if-words-at-eq-ARRAY.true in search rules

pub returns-then-words-at-eq0 : goal.returns-then-words-at-eq0
returns-then-words-at-eq0 c = let s = c in let a = s.args in new-unsized a.words.now a.pairs.now a.text.now a.at s.requires.1 c.if-words-at-eq-ARRAY.true c.if-words-at-eq0.true

pub returns-then-words-at-eq-ARRAY : goal.returns-then-words-at-eq-ARRAY
returns-then-words-at-eq-ARRAY c = let s = c in let a = s.args in new-sized a.words.now a.pairs.now a.text.now a.at s.requires.1 c.if-words-at-eq-ARRAY.true c.if-words-at-eq0.false

pub expand-start-requires : goal.expand-start-requires
expand-start-requires c = let s = c in let a = s.args in type-readable a.words.now a.pairs.now a.text.now a.at s.requires.1

pub offset_bounds-words-start : goal.offset_bounds-words-start
offset_bounds-words-start c =
    let behind = expanded-readable c.args.words.now c.args.pairs.now c.args.text.now c.args.at c.requires.1 c.expand-start.ensures in
    let a = c.args in let h = word-here a.words.now a.pairs.now a.text.now _ behind in search rules

pub bounds-words-start : goal.bounds-words-start
bounds-words-start c =
    let behind = expanded-readable c.args.words.now c.args.pairs.now c.args.text.now c.args.at c.requires.1 c.expand-start.ensures in
    let a = c.args in word-here a.words.now a.pairs.now a.text.now _ behind

pub returns-then-words-start-ne-TYPE_APP : goal.returns-then-words-start-ne-TYPE_APP
returns-then-words-start-ne-TYPE_APP c =
    let s = c in let a = s.args in
    new-no-part a.words.now a.pairs.now a.text.now a.at s.requires.1 c.if-words-at-eq-ARRAY.false _ c.expand-start.ensures (no-application a.words.now a.pairs.now a.text.now _ c.if-words-start-ne-TYPE_APP.true) refl

pub first_argument-requires : goal.first_argument-requires
first_argument-requires c =
    let behind = expanded-readable c.args.words.now c.args.pairs.now c.args.text.now c.args.at c.requires.1 c.expand-start.ensures in
    (c.requires.0, behind)

pub returns-in_err-element : goal.returns-in_err-element
returns-in_err-element c =
    let s = c in let a = s.args in
    rw c.from_residual.ensures (new-no-part a.words.now a.pairs.now a.text.now a.at s.requires.1 c.if-words-at-eq-ARRAY.false _ c.expand-start.ensures c.first_argument.ensures c.in_err-element.was)

pub returns : goal.returns
returns c =
    let s = c in let a = s.args in
    new-part a.words.now a.pairs.now a.text.now a.at s.requires.1 c.if-words-at-eq-ARRAY.false _ c.expand-start.ensures c.first_argument.ensures c.in_ok-element.was
