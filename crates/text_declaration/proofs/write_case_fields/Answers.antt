use mathlib.Core.Path.{sym}
use native.Mathlib.Omega.{arith}
use Rattle.text_pass.proofs.Leaves.{BelowThere}
use Rattle.text_pass.proofs.Passes.{came-as, ready-as}
use Rattle.text_declaration.proofs.Declarations.{case-listed, fields-there}
use Rattle.text_declaration.proofs.write_case_fields.Goals as goal

pub offset_bounds-words-at : goal.offset_bounds-words-at
offset_bounds-words-at c =
    let a = c.args in
    let there : BelowThere 2 a.words.now a.at = fields-there a.words.now a.pairs.now a.text.now a.level a.at c.requires.2 in
    omega (arith, there.here, c.requires.0.few)

pub bounds-words-at : goal.bounds-words-at
bounds-words-at c =
    let a = c.args in
    let there : BelowThere 2 a.words.now a.at = fields-there a.words.now a.pairs.now a.text.now a.level a.at c.requires.2 in
    there.here

pub overflow_add-at : goal.overflow_add-at
overflow_add-at c =
    let a = c.args in
    let there : BelowThere 2 a.words.now a.at = fields-there a.words.now a.pairs.now a.text.now a.level a.at c.requires.2 in
    omega (arith, there.here, c.requires.0.few)

pub write_list-requires : goal.write_list-requires
write_list-requires c =
    let a = c.args in
    let there : BelowThere 2 a.words.now a.at = fields-there a.words.now a.pairs.now a.text.now a.level a.at c.requires.2 in
    let fields = case-listed a.words.now a.pairs.now a.text.now a.level a.at there.reads c.fields_entry-entry.ensures in
    (c.requires.0, c.requires.1, ready-as fields c.requires.2)

pub returns : goal.returns
returns c =
    let a = c.args in
    let there : BelowThere 2 a.words.now a.at = fields-there a.words.now a.pairs.now a.text.now a.level a.at c.requires.2 in
    let fields = case-listed a.words.now a.pairs.now a.text.now a.level a.at there.reads c.fields_entry-entry.ensures in
    came-as (sym fields) c.write_list.ensures
