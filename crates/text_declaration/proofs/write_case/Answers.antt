use Prim.Native.Nat.{◌+◌, ◌<◌}
use mathlib.Core.Bool.{true}
use mathlib.Core.Path.{◌≡◌, refl}
use native.Mathlib.Omega.{arith}
use lib.ListN.{length}
use Rattle.buffer.proofs.Passes.{laid-wrote}
use Rattle.text_declaration.proofs.Declarations.{case-runs}
use Rattle.text_declaration.specs.Texts.{case_at, fields_at}
use Rattle.text_pass.proofs.Leaves.{doc-word, name-word, word_below, word-came, word_fits}
use Rattle.text_pass.proofs.Passes.{AlongChain, came-at, chain_next, chain-ready, chain-start, last-came, last-ready}
use Rattle.text_pass.specs.Passes.{last}
use Rattle.text_declaration.proofs.write_case.Goals as goal

pub write_doc-p-requires : goal.write_doc-p-requires
write_doc-p-requires c =
    let a = c.args in
    let whole = chain-start (case-runs a.words.now a.pairs.now a.text.now a.level a.at) c.requires.2 in
    (c.requires.0, chain-ready whole)

pub overflow_add-at : goal.overflow_add-at
overflow_add-at c =
    let a = c.args in
    let whole = chain-start (case-runs a.words.now a.pairs.now a.text.now a.level a.at) c.requires.2 in
    let here : a.at < length a.words.now = (word_below (doc-word a.words.now a.pairs.now a.text.now a.at a.level) (chain-ready whole)).here in
    omega (arith, here, c.requires.0.few)

pub offset_bounds-words-at : goal.offset_bounds-words-at
offset_bounds-words-at c =
    let a = c.args in
    let whole = chain-start (case-runs a.words.now a.pairs.now a.text.now a.level a.at) c.requires.2 in
    let name = chain_next whole c.write_doc-p.ensures in
    let word = name-word a.words.now a.pairs.now a.text.now (a.at + 1) in
    let there = word_below word (chain-ready name) in
    omega (arith, there.here, c.requires.0.few)

pub bounds-words-at : goal.bounds-words-at
bounds-words-at c =
    let a = c.args in
    let whole = chain-start (case-runs a.words.now a.pairs.now a.text.now a.level a.at) c.requires.2 in
    let name = chain_next whole c.write_doc-p.ensures in
    let word = name-word a.words.now a.pairs.now a.text.now (a.at + 1) in
    let there = word_below word (chain-ready name) in
    there.here

pub put_name-p-requires : goal.put_name-p-requires
put_name-p-requires c =
    let a = c.args in
    let whole = chain-start (case-runs a.words.now a.pairs.now a.text.now a.level a.at) c.requires.2 in
    let name = chain_next whole c.write_doc-p.ensures in
    let word = name-word a.words.now a.pairs.now a.text.now (a.at + 1) in
    let there = word_below word (chain-ready name) in
    (there.below, c.requires.0.good, (word_fits word (chain-ready name)).room refl)

pub overflow_add-at-2 : goal.overflow_add-at-2
overflow_add-at-2 c =
    let a = c.args in
    let whole = chain-start (case-runs a.words.now a.pairs.now a.text.now a.level a.at) c.requires.2 in
    let here : a.at < length a.words.now = (word_below (doc-word a.words.now a.pairs.now a.text.now a.at a.level) (chain-ready whole)).here in
    omega (arith, here, c.requires.0.few)

pub write_case_fields-requires : goal.write_case_fields-requires
write_case_fields-requires c =
    let a = c.args in
    let whole = chain-start (case-runs a.words.now a.pairs.now a.text.now a.level a.at) c.requires.2 in
    let name = chain_next whole c.write_doc-p.ensures in
    let word = name-word a.words.now a.pairs.now a.text.now (a.at + 1) in
    let fields : AlongChain true a.out.now a.pos (case_at a.words.now a.pairs.now a.text.now a.level a.at) c.put_name-p.new.out c.put_name-p.result (last (fields_at a.words.now a.pairs.now a.text.now true a.level (a.at + 2))) = let e : a.at + 1 + 1 ≡ a.at + 2 = omega arith in
    let n = name in
    chain_next n (came-at e (word-came word (chain-ready n) (laid-wrote refl c.put_name-p.ensures))) in
    (c.requires.0, c.requires.1, last-ready fields)

pub returns : goal.returns
returns c =
    let a = c.args in
    let whole = chain-start (case-runs a.words.now a.pairs.now a.text.now a.level a.at) c.requires.2 in
    let name = chain_next whole c.write_doc-p.ensures in
    let word = name-word a.words.now a.pairs.now a.text.now (a.at + 1) in
    let fields : AlongChain true a.out.now a.pos (case_at a.words.now a.pairs.now a.text.now a.level a.at) c.put_name-p.new.out c.put_name-p.result (last (fields_at a.words.now a.pairs.now a.text.now true a.level (a.at + 2))) = let e : a.at + 1 + 1 ≡ a.at + 2 = omega arith in
    let n = name in
    chain_next n (came-at e (word-came word (chain-ready n) (laid-wrote refl c.put_name-p.ensures))) in
    last-came fields c.write_case_fields.ensures
