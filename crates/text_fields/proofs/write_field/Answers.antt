use native.Mathlib.Omega.{arith}
use Rattle.text_fields.proofs.Fields.{field-runs}
use Rattle.text_pass.proofs.Leaves.{visibility-word, word_below}
use Rattle.text_pass.proofs.Passes.{chain_next, chain-ready, chain-start, last-came, last-ready}
use Rattle.text_fields.proofs.write_field.Goals as goal

pub write_visibility-p-requires : goal.write_visibility-p-requires
write_visibility-p-requires c =
    let a = c.args in
    let field = chain-start (field-runs a.words.now a.pairs.now a.text.now a.named a.at) c.requires.1 in
    chain-ready field

pub overflow_add-at : goal.overflow_add-at
overflow_add-at c =
    let a = c.args in
    let field = chain-start (field-runs a.words.now a.pairs.now a.text.now a.named a.at) c.requires.1 in
    let there = word_below (visibility-word a.words.now a.at) (chain-ready field) in omega (arith, there.here, c.requires.0.few)

pub write_rest-requires : goal.write_rest-requires
write_rest-requires c =
    let a = c.args in
    let field = chain-start (field-runs a.words.now a.pairs.now a.text.now a.named a.at) c.requires.1 in
    (c.requires.0, last-ready (chain_next field c.write_visibility-p.ensures))

pub returns : goal.returns
returns c =
    let a = c.args in
    let field = chain-start (field-runs a.words.now a.pairs.now a.text.now a.named a.at) c.requires.1 in
    last-came (chain_next field c.write_visibility-p.ensures) c.write_rest.ensures
