use Rattle.std.proofs.Common.{◌+◌, ◌-◌, ◌*◌, length}
use Rattle.text_type.proofs.Turns.{ListTo, Turning}
use Rattle.text_type.proofs.+write_apply_write_array_write_base_write_head_write_inputs_write_left_write_list_write_part_write_synonym_write_tuple_write_type.Given as goal

abbrev pub decreases-write_apply : goal.decreases-write_apply
decreases-write_apply l = 5 * (length l.words.now - l.at) + 4

abbrev pub decreases-write_array : goal.decreases-write_array
decreases-write_array l = 5 * (length l.words.now - l.at) + 4

abbrev pub decreases-write_base : goal.decreases-write_base
decreases-write_base l = 5 * (length l.words.now - l.at) + 3

abbrev pub decreases-write_head : goal.decreases-write_head
decreases-write_head l = 5 * (length l.words.now - l.at) + 0

abbrev pub decreases-write_inputs : goal.decreases-write_inputs
decreases-write_inputs l = 5 * (length l.words.now - l.at) + 4

abbrev pub decreases-write_left : goal.decreases-write_left
decreases-write_left l = 5 * (length l.words.now - l.at) + 4

abbrev pub decreases-write_list : goal.decreases-write_list
decreases-write_list l = 5 * (length l.words.now - l.at) + 3

abbrev pub decreases-write_part : goal.decreases-write_part
decreases-write_part l = 5 * (length l.words.now - l.at) + 2

abbrev pub decreases-write_synonym : goal.decreases-write_synonym
decreases-write_synonym l = 5 * (length l.words.now - l.at) + 4

abbrev pub decreases-write_tuple : goal.decreases-write_tuple
decreases-write_tuple l = 5 * (length l.words.now - l.at) + 4

abbrev pub decreases-write_type : goal.decreases-write_type
decreases-write_type l = 5 * (length l.words.now - l.at) + 1

abbrev pub invariant-write_list-loop : goal.invariant-write_list-loop
invariant-write_list-loop l = ListTo l.words l.pairs l.text l.n l.at l.fn.out l.pos l.out l.spot (l.n + 1 - l.counter)

abbrev pub invariant-write_type-loop-spot : goal.invariant-write_type-loop-spot
invariant-write_type-loop-spot l = Turning l.words l.pairs l.text l.at l.initial.out l.pos l.out l.place l.p

abbrev pub decreases-write_type-loop-spot : goal.decreases-write_type-loop-spot
decreases-write_type-loop-spot l = length l.words - l.place
