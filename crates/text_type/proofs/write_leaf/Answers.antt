use Rattle.text_type.proofs.Rooms.{TypeRoom, room-here, plain-leaf, name-there, name-leaf, leaf-done, name-asked, plain-asked}
use Rattle.std.proofs.Common.{arith}
use Rattle.text_type.proofs.write_leaf.Goals as goal

pub offset_bounds-words-at : goal.offset_bounds-words-at
offset_bounds-words-at c =
    let room : TypeRoom c.args.words.now c.args.pairs.now c.args.text.now c.args.at c.args.out.now c.args.pos = record { there = c.requires.2 } in
    omega (arith, room-here room)

pub bounds-words-at : goal.bounds-words-at
bounds-words-at c =
    let room : TypeRoom c.args.words.now c.args.pairs.now c.args.text.now c.args.at c.args.out.now c.args.pos = record { there = c.requires.2 } in
    omega (arith, room-here room)

pub overflow_add-result : goal.overflow_add-result
overflow_add-result c =
    let room : TypeRoom c.args.words.now c.args.pairs.now c.args.text.now c.args.at c.args.out.now c.args.pos = record { there = c.requires.2 } in
    omega (arith, room-here room)

pub put_primitive-requires : goal.put_primitive-requires
put_primitive-requires c =
    let room : TypeRoom c.args.words.now c.args.pairs.now c.args.text.now c.args.at c.args.out.now c.args.pos = record { there = c.requires.2 } in
    plain-asked room c.if-w-lt-PLAIN_KINDS.true

pub returns-then-w-lt-PLAIN_KINDS : goal.returns-then-w-lt-PLAIN_KINDS
returns-then-w-lt-PLAIN_KINDS c =
    let room : TypeRoom c.args.words.now c.args.pairs.now c.args.text.now c.args.at c.args.out.now c.args.pos = record { there = c.requires.2 } in
    leaf-done (plain-leaf room c.if-w-lt-PLAIN_KINDS.true) c.put_primitive.ensures

pub bounds-words-at-then-w-eq-T_IDENTIFIER : goal.bounds-words-at-then-w-eq-T_IDENTIFIER
bounds-words-at-then-w-eq-T_IDENTIFIER c =
    let room : TypeRoom c.args.words.now c.args.pairs.now c.args.text.now c.args.at c.args.out.now c.args.pos = record { there = c.requires.2 } in
    omega (arith, (name-there room c.if-w-eq-T_IDENTIFIER.true).inside)

pub put_name-requires : goal.put_name-requires
put_name-requires c =
    let room : TypeRoom c.args.words.now c.args.pairs.now c.args.text.now c.args.at c.args.out.now c.args.pos = record { there = c.requires.2 } in
    let s = c in
    name-asked room c.if-w-eq-T_IDENTIFIER.true s.requires.1

pub returns-then-w-eq-T_IDENTIFIER : goal.returns-then-w-eq-T_IDENTIFIER
returns-then-w-eq-T_IDENTIFIER c =
    let room : TypeRoom c.args.words.now c.args.pairs.now c.args.text.now c.args.at c.args.out.now c.args.pos = record { there = c.requires.2 } in
    leaf-done (name-leaf room c.if-w-eq-T_IDENTIFIER.true) c.put_name.ensures
