use Rattle.std.proofs.Common.{◌+◌, [], arith}
use Rattle.rast.specs.Bytes.{ascii}
use Rattle.buffer.proofs.Laws.{wrote_nothing}
use Rattle.text_type.specs.Written.{whole}
use Rattle.text_type.proofs.Parts.{room_of_node, apply-base, apply-none, apply-later, apply-open, apply-list, apply-close, apply-done, tuple-empty, tuple-none, tuple-open, tuple-list, tuple-close, tuple-done, inputs-open, inputs-none-arrow, inputs-none, inputs-list, inputs-arrow, inputs-done, left-type, left-plus, left-done, array-open, array-element, array-end, array-done, synonym-display, synonym-base, synonym-done}
use Rattle.text_type.proofs.Rooms.{room_of_type, Prefix, room-here, plain-leaf, name-there, name-leaf, ref-prefix, mut-prefix, impl-prefix, dyn-prefix, meta-prefix, apply-node, tuple-node, function-node, both-node, array-node, array_size, synonym-node, leaf-done, prefix-room, prefix-done, node-room, node-falls, node-asked, node-whole, node-front, name-asked, plain-asked}
use Rattle.text_type.proofs.Turns.{part-rest, part-done, turn-here, turn-again, turn_last, list-start, item_room, item-here, list_first, list_end, room-between, list_on, list_more}
use Rattle.text_type.proofs.+write_apply_write_array_write_base_write_head_write_inputs_write_left_write_list_write_part_write_synonym_write_tuple_write_type.Goals as goal

pub write_apply-write_base-base-requires : goal.write_apply-write_base-base-requires
write_apply-write_base-base-requires t c =
    let r = room_of_node c.requires.1 in
    let s = c in
    (omega (arith, s.decreases), (s.requires.0, apply-base r))

pub write_apply-returns-then-n-eq0 : goal.write_apply-returns-then-n-eq0
write_apply-returns-then-n-eq0 t c =
    let r = room_of_node c.requires.1 in
    apply-none r c.write_base-base.ensures c.if-n-eq0.true

pub write_apply-put-p-requires : goal.write_apply-put-p-requires
unfolding ascii
write_apply-put-p-requires t c =
    let r = room_of_node c.requires.1 in
    apply-open r c.write_base-base.ensures c.if-n-eq0.false

pub write_apply-write_list-list-requires : goal.write_apply-write_list-list-requires
unfolding ascii
write_apply-write_list-list-requires t c =
    let r = room_of_node c.requires.1 in
    let s = c in
    let base = c.write_base-base.ensures in
    let some = c.if-n-eq0.false in
    (omega (arith, s.decreases, apply-later r base), (omega (arith, some), s.requires.0, apply-list r base some c.put-p.ensures))

pub write_apply-put-requires : goal.write_apply-put-requires
unfolding ascii
write_apply-put-requires t c =
    let r = room_of_node c.requires.1 in
    apply-close r c.write_base-base.ensures c.if-n-eq0.false c.put-p.ensures c.write_list-list.ensures

pub write_apply-returns : goal.write_apply-returns
unfolding ascii
write_apply-returns t c =
    let r = room_of_node c.requires.1 in
    apply-done r c.write_base-base.ensures c.if-n-eq0.false c.put-p.ensures c.write_list-list.ensures c.put.ensures

pub write_array-put-p-requires : goal.write_array-put-p-requires
unfolding ascii
write_array-put-p-requires t c =
    let r = room_of_node c.requires.2 in
    array-open r

pub write_array-write_part-element-requires : goal.write_array-write_part-element-requires
unfolding ascii
write_array-write_part-element-requires t c =
    let r = room_of_node c.requires.2 in
    let s = c in
    (omega (arith, s.decreases), (s.requires.1, array-element r c.put-p.ensures))

pub write_array-put_size-requires : goal.write_array-put_size-requires
unfolding ascii
write_array-put_size-requires t c =
    let r = room_of_node c.requires.2 in
    let s = c in
    (s.requires.0, s.requires.1, array-end r c.put-p.ensures c.write_part-element.ensures)

pub write_array-returns : goal.write_array-returns
unfolding ascii
write_array-returns t c =
    let r = room_of_node c.requires.2 in
    array-done r c.put-p.ensures c.write_part-element.ensures c.put_size.ensures

pub write_base-offset_bounds-words-at : goal.write_base-offset_bounds-words-at
write_base-offset_bounds-words-at t c =
    let r = room_of_type c.requires.1 in
    omega (arith, room-here r)

pub write_base-bounds-words-at : goal.write_base-bounds-words-at
write_base-bounds-words-at t c =
    let r = room_of_type c.requires.1 in
    omega (arith, room-here r)

pub write_head-offset_bounds-words-at : goal.write_head-offset_bounds-words-at
write_head-offset_bounds-words-at t c =
    let r = room_of_type c.requires.1 in
    omega (arith, room-here r)

pub write_head-bounds-words-at : goal.write_head-bounds-words-at
write_head-bounds-words-at t c =
    let r = room_of_type c.requires.1 in
    omega (arith, room-here r)

pub write_head-returns-then-w-lt-LEAF_KINDS : goal.write_head-returns-then-w-lt-LEAF_KINDS
write_head-returns-then-w-lt-LEAF_KINDS t c = whole c.write_leaf.ensures

pub write_head-bounds-words-at-in-14 : goal.write_head-bounds-words-at-in-14
write_head-bounds-words-at-in-14 t c =
    let r = room_of_type c.requires.1 in
    let n = apply-node r c.in-14.is in
    omega (arith, n.inside)

pub write_head-write_apply-requires : goal.write_head-write_apply-requires
write_head-write_apply-requires t c =
    let r = room_of_type c.requires.1 in
    let n = apply-node r c.in-14.is in
    node-asked n (c.decreases, c.requires)

pub write_head-put-requires : goal.write_head-put-requires
unfolding ascii
write_head-put-requires t c =
    let r = room_of_type c.requires.1 in
    let n = ref-prefix r c.in-15.is in
    prefix-room n

pub write_head-put-requires-in-16 : goal.write_head-put-requires-in-16
unfolding ascii
write_head-put-requires-in-16 t c =
    let r = room_of_type c.requires.1 in
    let n = mut-prefix r c.in-16.is in
    prefix-room n

pub write_head-put-requires-in-17 : goal.write_head-put-requires-in-17
unfolding ascii
write_head-put-requires-in-17 t c =
    let r = room_of_type c.requires.1 in
    let n = impl-prefix r c.in-17.is in
    prefix-room n

pub write_head-put-requires-in-18 : goal.write_head-put-requires-in-18
unfolding ascii
write_head-put-requires-in-18 t c =
    let r = room_of_type c.requires.1 in
    let n = dyn-prefix r c.in-18.is in
    prefix-room n

pub write_head-bounds-words-at-in-19 : goal.write_head-bounds-words-at-in-19
write_head-bounds-words-at-in-19 t c =
    let r = room_of_type c.requires.1 in
    let n = tuple-node r c.in-19.is in
    omega (arith, n.inside)

pub write_head-write_tuple-requires : goal.write_head-write_tuple-requires
write_head-write_tuple-requires t c =
    let r = room_of_type c.requires.1 in
    let n = tuple-node r c.in-19.is in
    node-asked n (c.decreases, c.requires)

pub write_head-bounds-words-at-in-20 : goal.write_head-bounds-words-at-in-20
write_head-bounds-words-at-in-20 t c =
    let r = room_of_type c.requires.1 in
    let n = function-node r c.in-20.is in
    omega (arith, n.inside)

pub write_head-write_inputs-requires : goal.write_head-write_inputs-requires
write_head-write_inputs-requires t c =
    let r = room_of_type c.requires.1 in
    let n = function-node r c.in-20.is in
    node-asked n (c.decreases, c.requires)

pub write_head-write_left-requires : goal.write_head-write_left-requires
write_head-write_left-requires t c =
    let r = room_of_type c.requires.1 in
    let n = both-node r c.in-21.is in
    node-asked n (c.decreases, c.requires)

pub write_head-bounds-words-at-in-22 : goal.write_head-bounds-words-at-in-22
write_head-bounds-words-at-in-22 t c =
    let r = room_of_type c.requires.1 in
    let n = array-node r c.in-22.is in
    omega (arith, n.inside)

pub write_head-write_array-requires : goal.write_head-write_array-requires
write_head-write_array-requires t c =
    let r = room_of_type c.requires.1 in
    let n = array-node r c.in-22.is in
    let s = c in
    let d = n in
    (node-falls d s.decreases, (array_size r c.in-22.is, s.requires.0, node-room d))

pub write_head-write_synonym-requires : goal.write_head-write_synonym-requires
write_head-write_synonym-requires t c =
    let r = room_of_type c.requires.1 in
    let n = synonym-node r c.in-23.is in
    node-asked n (c.decreases, c.requires)

pub write_head-returns-in-14 : goal.write_head-returns-in-14
write_head-returns-in-14 t c =
    let r = room_of_type c.requires.1 in
    let n = apply-node r c.in-14.is in
    node-whole n c.write_apply.ensures

pub write_head-returns-in-15 : goal.write_head-returns-in-15
unfolding ascii
write_head-returns-in-15 t c =
    let r = room_of_type c.requires.1 in
    let n = ref-prefix r c.in-15.is in
    prefix-done n c.put.ensures

pub write_head-returns-in-16 : goal.write_head-returns-in-16
unfolding ascii
write_head-returns-in-16 t c =
    let r = room_of_type c.requires.1 in
    let n = mut-prefix r c.in-16.is in
    prefix-done n c.put-in-16.ensures

pub write_head-returns-in-17 : goal.write_head-returns-in-17
unfolding ascii
write_head-returns-in-17 t c =
    let r = room_of_type c.requires.1 in
    let n = impl-prefix r c.in-17.is in
    prefix-done n c.put-in-17.ensures

pub write_head-returns-in-18 : goal.write_head-returns-in-18
unfolding ascii
write_head-returns-in-18 t c =
    let r = room_of_type c.requires.1 in
    let n = dyn-prefix r c.in-18.is in
    prefix-done n c.put-in-18.ensures

pub write_head-returns-in-19 : goal.write_head-returns-in-19
write_head-returns-in-19 t c =
    let r = room_of_type c.requires.1 in
    let n = tuple-node r c.in-19.is in
    node-whole n c.write_tuple.ensures

pub write_head-returns-in-20 : goal.write_head-returns-in-20
write_head-returns-in-20 t c =
    let r = room_of_type c.requires.1 in
    let n = function-node r c.in-20.is in
    node-front n c.write_inputs.ensures

pub write_head-returns-in-21 : goal.write_head-returns-in-21
write_head-returns-in-21 t c =
    let r = room_of_type c.requires.1 in
    let n = both-node r c.in-21.is in
    node-front n c.write_left.ensures

pub write_head-returns-in-22 : goal.write_head-returns-in-22
write_head-returns-in-22 t c =
    let r = room_of_type c.requires.1 in
    let n = array-node r c.in-22.is in
    node-whole n c.write_array.ensures

pub write_head-returns-in-23 : goal.write_head-returns-in-23
write_head-returns-in-23 t c =
    let r = room_of_type c.requires.1 in
    let n = synonym-node r c.in-23.is in
    node-whole n c.write_synonym.ensures

pub write_head-returns-in_default : goal.write_head-returns-in_default
write_head-returns-in_default t c =
    let r = room_of_type c.requires.1 in
    let write-head-meta : Prefix r [] (c.args.at + 2) = meta-prefix r c.if-w-lt-LEAF_KINDS.false c.in_default.in_default-own.rest in
    prefix-done write-head-meta (wrote_nothing _ _)

pub write_inputs-put-p-requires : goal.write_inputs-put-p-requires
unfolding ascii
write_inputs-put-p-requires t c =
    let r = room_of_node c.requires.1 in
    inputs-open r

pub write_inputs-put-requires : goal.write_inputs-put-requires
unfolding ascii
write_inputs-put-requires t c =
    let r = room_of_node c.requires.1 in
    inputs-none-arrow r c.put-p.ensures c.if-n-eq0.true

pub write_inputs-returns-then-n-eq0 : goal.write_inputs-returns-then-n-eq0
unfolding ascii
write_inputs-returns-then-n-eq0 t c =
    let r = room_of_node c.requires.1 in
    inputs-none r c.put-p.ensures c.if-n-eq0.true c.put.ensures

pub write_inputs-write_list-list-requires : goal.write_inputs-write_list-list-requires
unfolding ascii
write_inputs-write_list-list-requires t c =
    let r = room_of_node c.requires.1 in
    let s = c in
    (omega (arith, s.decreases), (omega (arith, c.if-n-eq0.false), s.requires.0, inputs-list r c.put-p.ensures))

pub write_inputs-put-requires-2 : goal.write_inputs-put-requires-2
unfolding ascii
write_inputs-put-requires-2 t c =
    let r = room_of_node c.requires.1 in
    inputs-arrow r c.put-p.ensures c.write_list-list.ensures

pub write_inputs-returns : goal.write_inputs-returns
unfolding ascii
write_inputs-returns t c =
    let r = room_of_node c.requires.1 in
    inputs-done r c.put-p.ensures c.write_list-list.ensures c.put-2.ensures

pub write_left-write_part-left-requires : goal.write_left-write_part-left-requires
write_left-write_part-left-requires t c =
    let r = room_of_node c.requires.1 in
    let s = c in
    (omega (arith, s.decreases), (s.requires.0, left-type r))

pub write_left-put-requires : goal.write_left-put-requires
unfolding ascii
write_left-put-requires t c =
    let r = room_of_node c.requires.1 in
    left-plus r c.write_part-left.ensures

pub write_left-returns : goal.write_left-returns
unfolding ascii
write_left-returns t c =
    let r = room_of_node c.requires.1 in
    left-done r c.write_part-left.ensures c.put.ensures

pub write_list-write_part-spot-requires : goal.write_list-write_part-spot-requires
write_list-write_part-spot-requires t c =
    let a = c.args in
    let l = list-start a.words.now a.pairs.now a.text.now a.n a.at c.requires.0 c.requires.2 in
    (omega (arith, c.decreases, item-here l), (c.requires.1, item_room l))

pub write_list-loop-init : goal.write_list-loop-init
write_list-loop-init t c =
    let a = c.args in
    list_first a.words.now a.pairs.now a.text.now a.n a.at c.requires.0 c.requires.2 c.write_part-spot.ensures (omega arith)

pub write_list-put-p-requires : goal.write_list-put-p-requires
unfolding ascii
write_list-put-p-requires t c = room-between c.loop.invariant (omega arith)

pub write_list-write_part-spot-requires-in-loop : goal.write_list-write_part-spot-requires-in-loop
unfolding ascii
write_list-write_part-spot-requires-in-loop t c =
    let l = list_on c.loop.invariant (omega arith) c.put-p.ensures in
    (omega (arith, c.decreases, l.ahead, item-here l), (c.requires.1, item_room l))

pub write_list-loop-preserved : goal.write_list-loop-preserved
unfolding ascii
write_list-loop-preserved t c = list_more c.loop.invariant (omega arith) c.put-p.ensures c.write_part-spot-in-loop.ensures (omega arith)

pub write_list-returns : goal.write_list-returns
write_list-returns t c = list_end c.loop.invariant (omega arith)

pub write_part-offset_bounds-words-at : goal.write_part-offset_bounds-words-at
write_part-offset_bounds-words-at t c =
    let r = room_of_type c.requires.1 in
    omega (arith, room-here r)

pub write_part-bounds-words-at : goal.write_part-bounds-words-at
write_part-bounds-words-at t c =
    let r = room_of_type c.requires.1 in
    omega (arith, room-here r)

pub write_part-bounds-words-at-then-w-eq-T_IDENTIFIER : goal.write_part-bounds-words-at-then-w-eq-T_IDENTIFIER
write_part-bounds-words-at-then-w-eq-T_IDENTIFIER t c =
    let r = room_of_type c.requires.1 in
    omega (arith, (name-there r c.if-w-eq-T_IDENTIFIER.true).inside)

pub write_part-overflow_add-result-then-w-lt-PLAIN_KINDS : goal.write_part-overflow_add-result-then-w-lt-PLAIN_KINDS
write_part-overflow_add-result-then-w-lt-PLAIN_KINDS t c =
    let r = room_of_type c.requires.1 in
    omega (arith, room-here r)

pub write_part-put_name-requires : goal.write_part-put_name-requires
write_part-put_name-requires t c =
    let r = room_of_type c.requires.1 in
    let s = c in
    name-asked r c.if-w-eq-T_IDENTIFIER.true s.requires.0

pub write_part-returns-then-w-eq-T_IDENTIFIER : goal.write_part-returns-then-w-eq-T_IDENTIFIER
write_part-returns-then-w-eq-T_IDENTIFIER t c =
    let r = room_of_type c.requires.1 in
    leaf-done (name-leaf r c.if-w-eq-T_IDENTIFIER.true) c.put_name.ensures

pub write_part-put_primitive-requires : goal.write_part-put_primitive-requires
write_part-put_primitive-requires t c =
    let r = room_of_type c.requires.1 in
    plain-asked r c.if-w-lt-PLAIN_KINDS.true

pub write_part-returns-then-w-lt-PLAIN_KINDS : goal.write_part-returns-then-w-lt-PLAIN_KINDS
write_part-returns-then-w-lt-PLAIN_KINDS t c =
    let r = room_of_type c.requires.1 in
    leaf-done (plain-leaf r c.if-w-lt-PLAIN_KINDS.true) c.put_primitive.ensures

pub write_synonym-write_part-display-requires : goal.write_synonym-write_part-display-requires
write_synonym-write_part-display-requires t c =
    let r = room_of_node c.requires.1 in
    let s = c in
    (omega (arith, s.decreases), (s.requires.0, synonym-display r))

pub write_synonym-skip_type-requires : goal.write_synonym-skip_type-requires
write_synonym-skip_type-requires t c =
    let r = room_of_node c.requires.1 in
    synonym-base r c.write_part-display.ensures

pub write_synonym-returns : goal.write_synonym-returns
write_synonym-returns t c =
    let r = room_of_node c.requires.1 in
    synonym-done r c.write_part-display.ensures c.skip_type.ensures

pub write_tuple-put-requires : goal.write_tuple-put-requires
unfolding ascii
write_tuple-put-requires t c =
    let r = room_of_node c.requires.1 in
    tuple-empty r c.if-n-eq0.true

pub write_tuple-returns-then-n-eq0 : goal.write_tuple-returns-then-n-eq0
unfolding ascii
write_tuple-returns-then-n-eq0 t c =
    let r = room_of_node c.requires.1 in
    tuple-none r c.if-n-eq0.true c.put.ensures

pub write_tuple-put-p-requires : goal.write_tuple-put-p-requires
unfolding ascii
write_tuple-put-p-requires t c =
    let r = room_of_node c.requires.1 in
    tuple-open r

pub write_tuple-write_list-list-requires : goal.write_tuple-write_list-list-requires
unfolding ascii
write_tuple-write_list-list-requires t c =
    let r = room_of_node c.requires.1 in
    let s = c in
    (omega (arith, s.decreases), (omega (arith, c.if-n-eq0.false), s.requires.0, tuple-list r c.put-p.ensures))

pub write_tuple-put-requires-2 : goal.write_tuple-put-requires-2
unfolding ascii
write_tuple-put-requires-2 t c =
    let r = room_of_node c.requires.1 in
    tuple-close r c.put-p.ensures c.write_list-list.ensures

pub write_tuple-returns : goal.write_tuple-returns
unfolding ascii
write_tuple-returns t c =
    let r = room_of_node c.requires.1 in
    tuple-done r c.put-p.ensures c.write_list-list.ensures c.put-2.ensures

pub write_type-loop-spot-smaller : goal.write_type-loop-spot-smaller
write_type-loop-spot-smaller t c =
    let g = part-rest c.write_head.ensures c.in-Rest.is in
    omega (arith, g.ahead, turn-here c.loop-spot.invariant)

pub write_type-loop-spot-preserved : goal.write_type-loop-spot-preserved
write_type-loop-spot-preserved t c = turn-again c.loop-spot.invariant (part-rest c.write_head.ensures c.in-Rest.is)

pub write_type-returns-in-Done : goal.write_type-returns-in-Done
write_type-returns-in-Done t c = turn_last c.loop-spot.invariant (part-done c.write_head.ensures c.in-Done.is)
