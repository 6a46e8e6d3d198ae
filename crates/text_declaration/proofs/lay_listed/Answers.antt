use Rattle.text_fields.proofs.Fields.{went-handed}
use Rattle.text_declaration.proofs.Declarations.{listed-runs}
use Rattle.text_pass.proofs.Passes.{came-to, chain_next, chain-ready, chain-start, chain-stop, last_fits, last-laid}
use Rattle.text_pass.specs.Passes.{came}
use Rattle.text_declaration.proofs.lay_listed.Goals as goal

pub lay_list-requires : goal.lay_list-requires
lay_list-requires c =
    let a = c.args in
    let whole = chain-start (listed-runs a.words.now a.pairs.now a.text.now a.entry a.level a.at) c.requires.2 in
    (c.requires.0, c.requires.1, chain-ready whole)

pub returns-in_err-next : goal.returns-in_err-next
returns-in_err-next c =
    let a = c.args in
    let whole = chain-start (listed-runs a.words.now a.pairs.now a.text.now a.entry a.level a.at) c.requires.2 in
    went-handed c.in_err-next.was c.from_residual.ensures.1 (chain-stop whole c.lay_list.ensures c.in_err-next.was)

pub lay_fields_end-requires : goal.lay_fields_end-requires
lay_fields_end-requires c =
    let a = c.args in
    let whole = chain-start (listed-runs a.words.now a.pairs.now a.text.now a.entry a.level a.at) c.requires.2 in
    let end = chain_next whole (came-to c.lay_list.ensures c.in_ok-next.was) in
    last_fits end

pub returns : goal.returns
returns c =
    let a = c.args in
    let whole = chain-start (listed-runs a.words.now a.pairs.now a.text.now a.entry a.level a.at) c.requires.2 in
    let end = chain_next whole (came-to c.lay_list.ensures c.in_ok-next.was) in
    came (last-laid end c.lay_fields_end.ensures)
