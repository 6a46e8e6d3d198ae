use Rattle.std.proofs.Common.{◌+◌, refl, arith, rules}
use Rattle.rast.specs.Bytes.{ascii}
use Rattle.encoding.specs.Tables.{fixed_names}
use Rattle.known_paths.proofs.Paths.{runtime-count, runtime-name, runtime-root}
use Rattle.known_paths.proofs.Worded.{base-here, count-here, path-here, word-here}
use Rattle.rebuild_initial.proofs.Pointers.{runtime-arguments, runtime-base, runtime-kind, runtime-path}
use Rattle.rebuild_initial.proofs.is_of_runtime.Goals as goal

pub offset_bounds-words-at : goal.offset_bounds-words-at
offset_bounds-words-at c =
    let s = c in let a = s.args in let x = s.requires.1 in let h = word-here a.words.now a.pairs.now a.text.now a.at x in search rules

pub bounds-words-at : goal.bounds-words-at
bounds-words-at c =
    let s = c in let a = s.args in let x = s.requires.1 in word-here a.words.now a.pairs.now a.text.now a.at x

pub returns-then-words-at-ne-TYPE_APP : goal.returns-then-words-at-ne-TYPE_APP
returns-then-words-at-ne-TYPE_APP c =
    let s = c in let a = s.args in let x = s.requires.1 in runtime-kind a.words.now a.pairs.now a.text.now a.at c.if-words-at-ne-TYPE_APP.true

pub overflow_add-at : goal.overflow_add-at
overflow_add-at c =
    let s = c in let a = s.args in let x = s.requires.1 in let h = count-here a.words.now a.pairs.now a.text.now a.at x c.if-words-at-ne-TYPE_APP.false in search rules

pub offset_bounds-words-at-2 : goal.offset_bounds-words-at-2
offset_bounds-words-at-2 c =
    let s = c in let a = s.args in let x = s.requires.1 in let h = count-here a.words.now a.pairs.now a.text.now a.at x c.if-words-at-ne-TYPE_APP.false in search rules

pub bounds-words-at-2 : goal.bounds-words-at-2
bounds-words-at-2 c =
    let s = c in let a = s.args in let x = s.requires.1 in count-here a.words.now a.pairs.now a.text.now a.at x c.if-words-at-ne-TYPE_APP.false

pub returns-then-words-at-ne1 : goal.returns-then-words-at-ne1
returns-then-words-at-ne1 c =
    let s = c in let a = s.args in let x = s.requires.1 in runtime-arguments a.words.now a.pairs.now a.text.now a.at c.if-words-at-ne-TYPE_APP.false c.if-words-at-ne1.true

pub overflow_add-base : goal.overflow_add-base
overflow_add-base c =
    let s = c in let a = s.args in let x = s.requires.1 in let h = base-here a.words.now a.pairs.now a.text.now a.at x c.if-words-at-ne-TYPE_APP.false in search rules

pub offset_bounds-words-base : goal.offset_bounds-words-base
offset_bounds-words-base c =
    let s = c in let a = s.args in let x = s.requires.1 in let h = base-here a.words.now a.pairs.now a.text.now a.at x c.if-words-at-ne-TYPE_APP.false in search rules

pub bounds-words-base : goal.bounds-words-base
bounds-words-base c =
    let s = c in let a = s.args in let x = s.requires.1 in base-here a.words.now a.pairs.now a.text.now a.at x c.if-words-at-ne-TYPE_APP.false

pub returns-then-words-base-ne-TYPE_FROM_PATH : goal.returns-then-words-base-ne-TYPE_FROM_PATH
returns-then-words-base-ne-TYPE_FROM_PATH c =
    let s = c in let a = s.args in let x = s.requires.1 in runtime-base a.words.now a.pairs.now a.text.now a.at c.if-words-at-ne-TYPE_APP.false c.if-words-base-ne-TYPE_FROM_PATH.true

pub overflow_add-base-2 : goal.overflow_add-base-2
overflow_add-base-2 c =
    let inside = (path-here c.args.words.now c.args.pairs.now c.args.text.now c.args.at c.requires.1 c.if-words-at-ne-TYPE_APP.false c.if-words-base-ne-TYPE_FROM_PATH.false).inside in
    let h = inside in search rules

pub offset_bounds-words-base-2 : goal.offset_bounds-words-base-2
offset_bounds-words-base-2 c =
    let inside = (path-here c.args.words.now c.args.pairs.now c.args.text.now c.args.at c.requires.1 c.if-words-at-ne-TYPE_APP.false c.if-words-base-ne-TYPE_FROM_PATH.false).inside in
    let h = inside in search rules

pub bounds-words-base-2 : goal.bounds-words-base-2
bounds-words-base-2 c =
    let inside = (path-here c.args.words.now c.args.pairs.now c.args.text.now c.args.at c.requires.1 c.if-words-at-ne-TYPE_APP.false c.if-words-base-ne-TYPE_FROM_PATH.false).inside in
    omega (arith, inside)

pub returns-then-words-base-ne-GLOBAL : goal.returns-then-words-base-ne-GLOBAL
returns-then-words-base-ne-GLOBAL c =
    let own = (path-here c.args.words.now c.args.pairs.now c.args.text.now c.args.at c.requires.1 c.if-words-at-ne-TYPE_APP.false c.if-words-base-ne-TYPE_FROM_PATH.false).own in
    let s = c in let a = s.args in
    runtime-path a.words.now a.pairs.now a.text.now a.at s.requires.1 c.if-words-at-ne-TYPE_APP.false c.if-words-at-ne1.false c.if-words-base-ne-TYPE_FROM_PATH.false (runtime-root a.words.now a.pairs.now a.text.now _ own c.if-words-base-ne-GLOBAL.true)

pub overflow_add-base-3 : goal.overflow_add-base-3
overflow_add-base-3 c =
    let inside = (path-here c.args.words.now c.args.pairs.now c.args.text.now c.args.at c.requires.1 c.if-words-at-ne-TYPE_APP.false c.if-words-base-ne-TYPE_FROM_PATH.false).inside in
    let h = inside in search rules

pub offset_bounds-words-base-3 : goal.offset_bounds-words-base-3
offset_bounds-words-base-3 c =
    let inside = (path-here c.args.words.now c.args.pairs.now c.args.text.now c.args.at c.requires.1 c.if-words-at-ne-TYPE_APP.false c.if-words-base-ne-TYPE_FROM_PATH.false).inside in
    let h = inside in search rules

pub bounds-words-base-3 : goal.bounds-words-base-3
bounds-words-base-3 c =
    let inside = (path-here c.args.words.now c.args.pairs.now c.args.text.now c.args.at c.requires.1 c.if-words-at-ne-TYPE_APP.false c.if-words-base-ne-TYPE_FROM_PATH.false).inside in
    omega (arith, inside)

pub returns-then-words-base-ne2 : goal.returns-then-words-base-ne2
returns-then-words-base-ne2 c =
    let own = (path-here c.args.words.now c.args.pairs.now c.args.text.now c.args.at c.requires.1 c.if-words-at-ne-TYPE_APP.false c.if-words-base-ne-TYPE_FROM_PATH.false).own in
    let s = c in let a = s.args in
    runtime-path a.words.now a.pairs.now a.text.now a.at s.requires.1 c.if-words-at-ne-TYPE_APP.false c.if-words-at-ne1.false c.if-words-base-ne-TYPE_FROM_PATH.false (runtime-count a.words.now a.pairs.now a.text.now _ own c.if-words-base-ne2.true)

pub overflow_add-base-4 : goal.overflow_add-base-4
overflow_add-base-4 c =
    let own = (path-here c.args.words.now c.args.pairs.now c.args.text.now c.args.at c.requires.1 c.if-words-at-ne-TYPE_APP.false c.if-words-base-ne-TYPE_FROM_PATH.false).own in
    let h = own.inside in let n = c.if-words-base-ne2.false in search rules

pub offset_bounds-words-base-4 : goal.offset_bounds-words-base-4
offset_bounds-words-base-4 c =
    let own = (path-here c.args.words.now c.args.pairs.now c.args.text.now c.args.at c.requires.1 c.if-words-at-ne-TYPE_APP.false c.if-words-base-ne-TYPE_FROM_PATH.false).own in
    let h = own.inside in let n = c.if-words-base-ne2.false in search rules

pub bounds-words-base-4 : goal.bounds-words-base-4
bounds-words-base-4 c =
    let own = (path-here c.args.words.now c.args.pairs.now c.args.text.now c.args.at c.requires.1 c.if-words-at-ne-TYPE_APP.false c.if-words-base-ne-TYPE_FROM_PATH.false).own in
    omega (arith, own.inside, c.if-words-base-ne2.false)

pub is_name-requires : goal.is_name-requires
unfolding ascii fixed_names
is_name-requires c =
    let own = (path-here c.args.words.now c.args.pairs.now c.args.text.now c.args.at c.requires.1 c.if-words-at-ne-TYPE_APP.false c.if-words-base-ne-TYPE_FROM_PATH.false).own in
    let s = c in
    (own.below (s.args.at + 2 + 3) (omega arith) (omega (arith, c.if-words-base-ne2.false)), s.requires.0, omega arith, refl)

pub returns : goal.returns
unfolding fixed_names
returns c =
    let own = (path-here c.args.words.now c.args.pairs.now c.args.text.now c.args.at c.requires.1 c.if-words-at-ne-TYPE_APP.false c.if-words-base-ne-TYPE_FROM_PATH.false).own in
    let s = c in let a = s.args in
    runtime-path a.words.now a.pairs.now a.text.now a.at s.requires.1 c.if-words-at-ne-TYPE_APP.false c.if-words-at-ne1.false c.if-words-base-ne-TYPE_FROM_PATH.false (runtime-name a.words.now a.pairs.now a.text.now _ own c.if-words-base-ne-GLOBAL.false c.if-words-base-ne2.false c.is_name.ensures)
