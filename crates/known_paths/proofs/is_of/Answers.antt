use Rattle.known_paths.proofs.Worded.{base-here, base-word-other, count-here, count-other, names-other, path-here, path-word, word-here, word-other}
use Rattle.std.proofs.Common.{◌+◌, ◌<◌, length, arith, rules}
use Rattle.known_paths.proofs.is_of.Goals as goal

pub offset_bounds-words-at : goal.offset_bounds-words-at
offset_bounds-words-at c =
    let a = c.args in
    let h = word-here a.words.now a.pairs.now a.text.now a.at c.requires.1 in search rules

pub bounds-words-at : goal.bounds-words-at
bounds-words-at c =
    let a = c.args in
    word-here a.words.now a.pairs.now a.text.now a.at c.requires.1

pub returns-then-words-at-ne-TYPE_APP : goal.returns-then-words-at-ne-TYPE_APP
returns-then-words-at-ne-TYPE_APP c =
    let a = c.args in
    word-other a.words.now a.pairs.now a.text.now a.at a.class c.if-words-at-ne-TYPE_APP.true

pub overflow_add-at : goal.overflow_add-at
overflow_add-at c =
    let a = c.args in
    let h = count-here a.words.now a.pairs.now a.text.now a.at c.requires.1 c.if-words-at-ne-TYPE_APP.false in search rules

pub offset_bounds-words-at-2 : goal.offset_bounds-words-at-2
offset_bounds-words-at-2 c =
    let a = c.args in
    let h = count-here a.words.now a.pairs.now a.text.now a.at c.requires.1 c.if-words-at-ne-TYPE_APP.false in search rules

pub bounds-words-at-2 : goal.bounds-words-at-2
bounds-words-at-2 c =
    let a = c.args in
    count-here a.words.now a.pairs.now a.text.now a.at c.requires.1 c.if-words-at-ne-TYPE_APP.false

pub returns-then-words-at : goal.returns-then-words-at
returns-then-words-at c =
    let a = c.args in
    count-other a.words.now a.pairs.now a.text.now a.at a.class c.if-words-at-ne-TYPE_APP.false c.form_of-form.ensures.0 c.if-words-at.true

pub overflow_add-base : goal.overflow_add-base
overflow_add-base c =
    let a = c.args in
    let h = base-here a.words.now a.pairs.now a.text.now a.at c.requires.1 c.if-words-at-ne-TYPE_APP.false in search rules

pub offset_bounds-words-base : goal.offset_bounds-words-base
offset_bounds-words-base c =
    let a = c.args in
    let h = base-here a.words.now a.pairs.now a.text.now a.at c.requires.1 c.if-words-at-ne-TYPE_APP.false in search rules

pub bounds-words-base : goal.bounds-words-base
bounds-words-base c =
    let a = c.args in
    base-here a.words.now a.pairs.now a.text.now a.at c.requires.1 c.if-words-at-ne-TYPE_APP.false

pub returns-then-words-base-ne-TYPE_FROM_PATH : goal.returns-then-words-base-ne-TYPE_FROM_PATH
returns-then-words-base-ne-TYPE_FROM_PATH c =
    let a = c.args in
    base-word-other a.words.now a.pairs.now a.text.now a.at a.class c.if-words-at-ne-TYPE_APP.false c.if-words-base-ne-TYPE_FROM_PATH.true

pub overflow_add-base-2 : goal.overflow_add-base-2
overflow_add-base-2 c =
    let inside : let s = c in s.args.at + 2 + 2 < length s.args.words.now = let s = c in
    (path-here s.args.words.now s.args.pairs.now s.args.text.now s.args.at s.requires.1 c.if-words-at-ne-TYPE_APP.false c.if-words-base-ne-TYPE_FROM_PATH.false).inside in
    let h = inside in search rules

pub offset_bounds-words-base-2 : goal.offset_bounds-words-base-2
offset_bounds-words-base-2 c =
    let inside : let s = c in s.args.at + 2 + 2 < length s.args.words.now = let s = c in
    (path-here s.args.words.now s.args.pairs.now s.args.text.now s.args.at s.requires.1 c.if-words-at-ne-TYPE_APP.false c.if-words-base-ne-TYPE_FROM_PATH.false).inside in
    let h = inside in search rules

pub bounds-words-base-2 : goal.bounds-words-base-2
bounds-words-base-2 c =
    let inside : let s = c in s.args.at + 2 + 2 < length s.args.words.now = let s = c in
    (path-here s.args.words.now s.args.pairs.now s.args.text.now s.args.at s.requires.1 c.if-words-at-ne-TYPE_APP.false c.if-words-base-ne-TYPE_FROM_PATH.false).inside in
    omega (arith, inside)

pub returns-then-words-base : goal.returns-then-words-base
returns-then-words-base c =
    let a = c.args in
    names-other a.words.now a.pairs.now a.text.now a.at a.class c.if-words-at-ne-TYPE_APP.false c.form_of-form.ensures.1 c.if-words-base-ne-TYPE_FROM_PATH.false c.if-words-base.true

pub overflow_add-path : goal.overflow_add-path
overflow_add-path c =
    let inside : let s = c in s.args.at + 2 + 2 < length s.args.words.now = let s = c in
    (path-here s.args.words.now s.args.pairs.now s.args.text.now s.args.at s.requires.1 c.if-words-at-ne-TYPE_APP.false c.if-words-base-ne-TYPE_FROM_PATH.false).inside in
    let h = inside in search rules

pub offset_bounds-words-base-3 : goal.offset_bounds-words-base-3
offset_bounds-words-base-3 c =
    let inside : let s = c in s.args.at + 2 + 2 < length s.args.words.now = let s = c in
    (path-here s.args.words.now s.args.pairs.now s.args.text.now s.args.at s.requires.1 c.if-words-at-ne-TYPE_APP.false c.if-words-base-ne-TYPE_FROM_PATH.false).inside in
    let h = inside in search rules

pub bounds-words-base-3 : goal.bounds-words-base-3
bounds-words-base-3 c =
    let inside : let s = c in s.args.at + 2 + 2 < length s.args.words.now = let s = c in
    (path-here s.args.words.now s.args.pairs.now s.args.text.now s.args.at s.requires.1 c.if-words-at-ne-TYPE_APP.false c.if-words-base-ne-TYPE_FROM_PATH.false).inside in
    omega (arith, inside)

pub overflow_add-path-2 : goal.overflow_add-path-2
overflow_add-path-2 c =
    let inside : let s = c in s.args.at + 2 + 2 < length s.args.words.now = let s = c in
    (path-here s.args.words.now s.args.pairs.now s.args.text.now s.args.at s.requires.1 c.if-words-at-ne-TYPE_APP.false c.if-words-base-ne-TYPE_FROM_PATH.false).inside in
    let h = inside in search rules

pub overflow_add-path-3 : goal.overflow_add-path-3
overflow_add-path-3 c =
    let inside : let s = c in s.args.at + 2 + 2 < length s.args.words.now = let s = c in
    (path-here s.args.words.now s.args.pairs.now s.args.text.now s.args.at s.requires.1 c.if-words-at-ne-TYPE_APP.false c.if-words-base-ne-TYPE_FROM_PATH.false).inside in
    let h = inside in search rules

pub offset_bounds-words-base-4 : goal.offset_bounds-words-base-4
offset_bounds-words-base-4 c =
    let inside : let s = c in s.args.at + 2 + 2 < length s.args.words.now = let s = c in
    (path-here s.args.words.now s.args.pairs.now s.args.text.now s.args.at s.requires.1 c.if-words-at-ne-TYPE_APP.false c.if-words-base-ne-TYPE_FROM_PATH.false).inside in
    let h = inside in search rules

pub bounds-words-base-4 : goal.bounds-words-base-4
bounds-words-base-4 c =
    let inside : let s = c in s.args.at + 2 + 2 < length s.args.words.now = let s = c in
    (path-here s.args.words.now s.args.pairs.now s.args.text.now s.args.at s.requires.1 c.if-words-at-ne-TYPE_APP.false c.if-words-base-ne-TYPE_FROM_PATH.false).inside in
    omega (arith, inside)

pub is_in_class-requires : goal.is_in_class-requires
is_in_class-requires c =
    let s = c in
    ((path-here s.args.words.now s.args.pairs.now s.args.text.now s.args.at s.requires.1 c.if-words-at-ne-TYPE_APP.false c.if-words-base-ne-TYPE_FROM_PATH.false).own, s.requires.0)

pub returns : goal.returns
returns c =
    let a = c.args in
    path-word a.words.now a.pairs.now a.text.now a.at a.class c.if-words-at-ne-TYPE_APP.false c.form_of-form.ensures.0 c.if-words-at.false c.if-words-base-ne-TYPE_FROM_PATH.false c.is_in_class.ensures
