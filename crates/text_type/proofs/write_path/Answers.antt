use Rattle.std.proofs.Common.{arith}
use Rattle.text_type.proofs.Rooms.{TypeRoom, PathIn, path-in, path-leaf, leaf_room, leaf-done}
use Rattle.text_type.proofs.write_path.Goals as goal

pub offset_bounds-words-at : goal.offset_bounds-words-at
offset_bounds-words-at c =
    let room : TypeRoom c.args.words.now c.args.pairs.now c.args.text.now c.args.at c.args.out.now c.args.pos = record { there = c.requires.2 } in
    let path : PathIn room = path-in room c.requires.0 in
    omega (arith, path.inside)

pub bounds-words-at : goal.bounds-words-at
bounds-words-at c =
    let room : TypeRoom c.args.words.now c.args.pairs.now c.args.text.now c.args.at c.args.out.now c.args.pos = record { there = c.requires.2 } in
    let path : PathIn room = path-in room c.requires.0 in
    omega (arith, path.inside)

pub bounds-words-at-2 : goal.bounds-words-at-2
bounds-words-at-2 c =
    let room : TypeRoom c.args.words.now c.args.pairs.now c.args.text.now c.args.at c.args.out.now c.args.pos = record { there = c.requires.2 } in
    let path : PathIn room = path-in room c.requires.0 in
    omega (arith, path.inside)

pub overflow_add-result : goal.overflow_add-result
overflow_add-result c =
    let room : TypeRoom c.args.words.now c.args.pairs.now c.args.text.now c.args.at c.args.out.now c.args.pos = record { there = c.requires.2 } in
    let path : PathIn room = path-in room c.requires.0 in
    omega (arith, path.own.inside)

pub put_path-requires : goal.put_path-requires
put_path-requires c =
    let room : TypeRoom c.args.words.now c.args.pairs.now c.args.text.now c.args.at c.args.out.now c.args.pos = record { there = c.requires.2 } in
    let path : PathIn room = path-in room c.requires.0 in
    let s = c in
    (path.own, s.requires.1, leaf_room (path-leaf room path))

pub returns : goal.returns
returns c =
    let room : TypeRoom c.args.words.now c.args.pairs.now c.args.text.now c.args.at c.args.out.now c.args.pos = record { there = c.requires.2 } in
    let path : PathIn room = path-in room c.requires.0 in
    let s = c in
    leaf-done (path-leaf room path) c.put_path.ensures
