use mathlib.Core.Path.{refl}
use Rattle.text_fields.proofs.Fields.{some_runs}
use Rattle.text_pass.proofs.Passes.{chain_fits, chain-laid, chain_next, chain-ready, chain-start, last_fits, last-laid}
use Rattle.buffer.proofs.Passes.{laid-wrote}
use Rattle.text_fields.proofs.write_some.Goals as goal

pub write_front-p-requires : goal.write_front-p-requires
write_front-p-requires c =
    let a = c.args in
    let fields = chain-start (some_runs a.words.now a.pairs.now a.text.now a.entry a.level a.n a.at c.is_named-named.ensures) c.requires.3 in
    (c.requires.2, (chain_fits fields).room refl)

pub write_entries-spot-requires : goal.write_entries-spot-requires
write_entries-spot-requires c =
    let a = c.args in
    let fields = chain-start (some_runs a.words.now a.pairs.now a.text.now a.entry a.level a.n a.at c.is_named-named.ensures) c.requires.3 in
    let entries = chain-laid fields (laid-wrote refl c.write_front-p.ensures) in
    (c.requires.0, c.requires.1, c.requires.2, chain-ready entries)

pub write_end-requires : goal.write_end-requires
write_end-requires c =
    let a = c.args in
    let fields = chain-start (some_runs a.words.now a.pairs.now a.text.now a.entry a.level a.n a.at c.is_named-named.ensures) c.requires.3 in
    let entries = chain-laid fields (laid-wrote refl c.write_front-p.ensures) in
    (last_fits (chain_next entries c.write_entries-spot.ensures)).room refl

pub returns : goal.returns
returns c =
    let a = c.args in
    let fields = chain-start (some_runs a.words.now a.pairs.now a.text.now a.entry a.level a.n a.at c.is_named-named.ensures) c.requires.3 in
    let entries = chain-laid fields (laid-wrote refl c.write_front-p.ensures) in
    last-laid (chain_next entries c.write_entries-spot.ensures) (laid-wrote refl c.write_end.ensures)
