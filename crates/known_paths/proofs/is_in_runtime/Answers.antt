use Rattle.encoding.specs.Tables.{fixed_names}
use Rattle.rast.specs.Bytes.{ascii}
use Rattle.known_paths.proofs.Paths.{runtime-count, runtime-name, runtime-root}
use Rattle.std.proofs.Common.{refl, arith}
use Rattle.known_paths.proofs.is_in_runtime.Goals as goal

pub returns-then-path-ne-GLOBAL : goal.returns-then-path-ne-GLOBAL
returns-then-path-ne-GLOBAL c =
    let a = c.args in
    runtime-root a.words.now a.pairs.now a.text.now a.path c.requires.0 c.if-path-ne-GLOBAL.true

pub returns-then-path-ne2 : goal.returns-then-path-ne2
returns-then-path-ne2 c =
    let a = c.args in
    runtime-count a.words.now a.pairs.now a.text.now a.path c.requires.0 c.if-path-ne2.true

pub offset_bounds-words-start : goal.offset_bounds-words-start
offset_bounds-words-start c = omega (arith, c.requires.0.inside, c.if-path-ne2.false)

pub bounds-words-start : goal.bounds-words-start
bounds-words-start c = omega (arith, c.requires.0.inside, c.if-path-ne2.false)

pub is_name-requires : goal.is_name-requires
unfolding ascii fixed_names
is_name-requires c =
    let a = c.args in
    (c.requires.0.below a.path.start (omega arith) (omega (arith, c.if-path-ne2.false)), c.requires.1, omega arith, refl)

pub returns : goal.returns
unfolding fixed_names
returns c =
    let a = c.args in
    runtime-name a.words.now a.pairs.now a.text.now a.path c.requires.0 c.if-path-ne-GLOBAL.false c.if-path-ne2.false c.is_name.ensures
