use mathlib.Core.Path.{refl, sym}
use native.Mathlib.Omega.{arith}
use Rattle.text_fields.proofs.Fields.{list-first, room_of, wrote_of}
use Rattle.text_fields.specs.Texts.{no_fields}
use Rattle.text_pass.proofs.Leaves.{count-there, none-fits, there-none, there-some}
use Rattle.text_pass.proofs.Passes.{last-came, last-ready}
use Rattle.buffer.proofs.Passes.{laid-wrote}
use Rattle.text_fields.proofs.write_list.Goals as goal

pub offset_bounds-words-at : goal.offset_bounds-words-at
offset_bounds-words-at c =
    let a = c.args in
    let there = count-there (list-first a.words.now a.pairs.now a.text.now a.entry a.level a.at) c.requires.2 in
    omega (arith, there, c.requires.0.few)

pub bounds-words-at : goal.bounds-words-at
bounds-words-at c =
    let a = c.args in
    count-there (list-first a.words.now a.pairs.now a.text.now a.entry a.level a.at) c.requires.2

pub overflow_add-result : goal.overflow_add-result
overflow_add-result c =
    let a = c.args in
    let there = count-there (list-first a.words.now a.pairs.now a.text.now a.entry a.level a.at) c.requires.2 in
    omega (arith, there, c.requires.0.few)

pub write_none-requires : goal.write_none-requires
write_none-requires c =
    let a = c.args in
    room_of no_fields a.pos a.out.now (sym c.is_named.ensures) ((none-fits (list-first a.words.now a.pairs.now a.text.now a.entry a.level a.at) c.requires.2 c.if-n-eq0.true).room refl)

pub returns-then-n-eq0 : goal.returns-then-n-eq0
returns-then-n-eq0 c =
    let a = c.args in
    there-none (list-first a.words.now a.pairs.now a.text.now a.entry a.level a.at) c.requires.2 c.if-n-eq0.true (laid-wrote refl (wrote_of no_fields (sym c.is_named.ensures) c.write_none.ensures))

pub overflow_add-at : goal.overflow_add-at
overflow_add-at c =
    let a = c.args in
    let there = count-there (list-first a.words.now a.pairs.now a.text.now a.entry a.level a.at) c.requires.2 in
    omega (arith, there, c.requires.0.few)

pub write_some-requires : goal.write_some-requires
write_some-requires c =
    let a = c.args in
    let fields = there-some (list-first a.words.now a.pairs.now a.text.now a.entry a.level a.at) c.requires.2 c.if-n-eq0.false in
    rw (c.all-pairs.ensures, c.all-text.ensures) (c.requires.0, omega (arith, c.if-n-eq0.false), c.requires.1, last-ready fields)

pub returns : goal.returns
returns c =
    let a = c.args in
    let fields = there-some (list-first a.words.now a.pairs.now a.text.now a.entry a.level a.at) c.requires.2 c.if-n-eq0.false in
    last-came fields (rw (c.all-pairs.ensures, c.all-text.ensures) at c.write_some.ensures)
