use Rattle.std.proofs.Common.{◌+◌, arith}
use Rattle.known_paths.specs.Classes.{member_in}
use Rattle.known_paths.proofs.Paths.{runtime-no, runtime-yes}
use Rattle.known_paths.proofs.is_runtime_class.Goals as goal

pub is_in_runtime-requires : goal.is_in_runtime-requires
is_in_runtime-requires c = (c.requires.0, c.requires.1)

pub returns-then-not-is_in_runtime : goal.returns-then-not-is_in_runtime
returns-then-not-is_in_runtime c =
    let a = c.args in
    runtime-no a.words.now a.pairs.now a.text.now a.path c.is_in_runtime.ensures (member_in a.class) c.if-not-is_in_runtime.true

pub overflow_add-start : goal.overflow_add-start
overflow_add-start c = omega (arith, c.requires.0.inside, c.is_in_runtime.ensures.two c.if-not-is_in_runtime.false)

pub offset_bounds-words-start : goal.offset_bounds-words-start
offset_bounds-words-start c = omega (arith, c.requires.0.inside, c.is_in_runtime.ensures.two c.if-not-is_in_runtime.false)

pub bounds-words-start : goal.bounds-words-start
bounds-words-start c =
    omega (arith, c.requires.0.inside, c.is_in_runtime.ensures.two c.if-not-is_in_runtime.false)

pub is_member-requires : goal.is_member-requires
is_member-requires c =
    let a = c.args in
    let k = c.is_in_runtime.ensures.two c.if-not-is_in_runtime.false in
    (c.requires.0.below (a.path.start + 1) (omega arith) (omega (arith, k)), c.requires.1)

pub returns : goal.returns
returns c =
    let a = c.args in
    runtime-yes a.words.now a.pairs.now a.text.now a.path c.is_in_runtime.ensures (member_in a.class) c.if-not-is_in_runtime.false c.is_member.ensures
