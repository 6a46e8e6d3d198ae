use Prim.Native.Nat.{◌+◌, ◌<◌}
use mathlib.Core.Path.{◌≡◌, sym}
use native.Mathlib.Omega.{arith}
use lib.ListN.{get_or, length}
use Rattle.encoding.proofs.Reading.{word_in}
use Rattle.text_pass.proofs.Passes.{came-as, ready-as}
use Rattle.text_attributes.specs.Texts.{attributes_at, some_attributes}
use Rattle.text_attributes.proofs.Attributes.{attributes-read, attributes-there}
use Rattle.text_attributes.proofs.write_attribute_list.Goals as goal
use Rattle.text_attributes.proofs.write_attribute_list.Goals.{Start}

there : (c : Start) → (c.args.at < length c.args.words.now)
there c = attributes-there c.args.words.now c.args.pairs.now c.args.text.now c.args.level c.args.at c.requires.1

attributes : (c : Start) → attributes_at c.args.words.now c.args.pairs.now c.args.text.now c.args.level c.args.at ≡ some_attributes c.args.words.now c.args.pairs.now c.args.text.now c.args.level (get_or c.args.words.now c.args.at 0) (c.args.at + 1)
attributes c = attributes-read c.args.words.now c.args.pairs.now c.args.text.now c.args.level c.args.at (word_in c.args.words.now c.args.at (there c))

pub offset_bounds-words-at : goal.offset_bounds-words-at
offset_bounds-words-at c =
    let start = c in
    omega (arith, there (goal.at.offset_bounds-words-at c).Start, start.requires.0.few)

pub bounds-words-at : goal.bounds-words-at
bounds-words-at c =
    there (goal.at.bounds-words-at c).Start

pub overflow_add-at : goal.overflow_add-at
overflow_add-at c =
    let start = c in
    omega (arith, there (goal.at.overflow_add-at c).Start, start.requires.0.few)

pub write_attributes-requires : goal.write_attributes-requires
write_attributes-requires c =
    let start = c in
    (start.requires.0, ready-as (attributes (goal.at.write_attributes-requires c).Start) start.requires.1)

pub returns : goal.returns
returns c =
    came-as (sym (attributes (goal.at.returns c).Start)) c.write_attributes.ensures
