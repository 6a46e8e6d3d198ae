use Rattle.std.proofs.Common.{◌+◌, sym, refl, arith, rules}
use Rattle.encoding.specs.Tables.{fixed_names, name_bytes, name_count}
use Rattle.rast.specs.Bytes.{ascii}
use Rattle.known_paths.proofs.Paths.{std-count, std-last, std-no-first, std-no-second, std-root}
use Rattle.known_paths.proofs.is_in_std.Goals as goal

pub returns-then-path-ne-GLOBAL : goal.returns-then-path-ne-GLOBAL
returns-then-path-ne-GLOBAL c =
    let a = c.args in
    sym (std-root (name_count a.pairs.now) a.words.now (name_bytes a.pairs.now a.text.now) a.path c.requires.0 _ _ c.if-path-ne-GLOBAL.true)

pub returns-then-path-ne3 : goal.returns-then-path-ne3
returns-then-path-ne3 c =
    let a = c.args in
    sym (std-count (name_count a.pairs.now) a.words.now (name_bytes a.pairs.now a.text.now) a.path c.requires.0 _ _ c.if-path-ne3.true)

pub offset_bounds-words-start : goal.offset_bounds-words-start
offset_bounds-words-start c = let h = c.requires.0.inside in search rules

pub bounds-words-start : goal.bounds-words-start
bounds-words-start c = omega (arith, c.requires.0.inside, c.if-path-ne3.false)

pub is_name-requires : goal.is_name-requires
unfolding ascii fixed_names
is_name-requires c =
    let a = c.args in
    (c.requires.0.below a.path.start (omega arith) (omega (arith, c.if-path-ne3.false)), c.requires.1, omega arith, refl)

pub returns-then-not-is_name : goal.returns-then-not-is_name
unfolding ascii fixed_names
returns-then-not-is_name c =
    let a = c.args in
    std-no-first (name_count a.pairs.now) a.words.now (name_bytes a.pairs.now a.text.now) a.path c.requires.0 _ _ c.if-path-ne-GLOBAL.false c.if-path-ne3.false c.is_name.ensures c.if-not-is_name.true

pub overflow_add-start : goal.overflow_add-start
overflow_add-start c =
    omega (arith, c.requires.0.inside, c.if-path-ne3.false)

pub offset_bounds-words-start-2 : goal.offset_bounds-words-start-2
offset_bounds-words-start-2 c =
    omega (arith, c.requires.0.inside, c.if-path-ne3.false)

pub bounds-words-start-2 : goal.bounds-words-start-2
bounds-words-start-2 c =
    omega (arith, c.requires.0.inside, c.if-path-ne3.false)

pub is_name-requires-2 : goal.is_name-requires-2
is_name-requires-2 c =
    let a = c.args in
    (c.requires.0.below (a.path.start + 1) (omega arith) (omega (arith, c.if-path-ne3.false)), c.requires.1, c.requires.2, c.requires.3)

pub returns-then-not-is_name-2 : goal.returns-then-not-is_name-2
returns-then-not-is_name-2 c =
    let a = c.args in
    std-no-second (name_count a.pairs.now) a.words.now (name_bytes a.pairs.now a.text.now) a.path c.requires.0 _ _ c.if-path-ne-GLOBAL.false c.if-path-ne3.false c.is_name-2.ensures c.if-not-is_name-2.true

pub overflow_add-start-2 : goal.overflow_add-start-2
overflow_add-start-2 c =
    omega (arith, c.requires.0.inside, c.if-path-ne3.false)

pub offset_bounds-words-start-3 : goal.offset_bounds-words-start-3
offset_bounds-words-start-3 c =
    omega (arith, c.requires.0.inside, c.if-path-ne3.false)

pub bounds-words-start-3 : goal.bounds-words-start-3
bounds-words-start-3 c =
    omega (arith, c.requires.0.inside, c.if-path-ne3.false)

pub is_name-requires-3 : goal.is_name-requires-3
is_name-requires-3 c =
    let a = c.args in
    (c.requires.0.below (a.path.start + 2) (omega arith) (omega (arith, c.if-path-ne3.false)), c.requires.1, c.requires.4, c.requires.5)

pub returns : goal.returns
unfolding ascii fixed_names
returns c =
    let a = c.args in
    std-last (name_count a.pairs.now) a.words.now (name_bytes a.pairs.now a.text.now) a.path c.requires.0 _ _ c.if-path-ne-GLOBAL.false c.if-path-ne3.false c.is_name.ensures c.if-not-is_name.false c.is_name-2.ensures c.if-not-is_name-2.false c.is_name-3.ensures
