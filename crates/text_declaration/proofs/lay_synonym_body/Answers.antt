use Rattle.text_fields.proofs.Fields.{went-handed}
use Rattle.rast.specs.Bytes.{ascii}
use Rattle.text_declaration.proofs.Declarations.{synonym-body-runs}
use Rattle.text_pass.proofs.Passes.{came-to, chain_fits, chain-laid, chain_next, chain-ready, chain-start, chain-stop, last_fits, last-laid}
use Rattle.text_pass.specs.Passes.{came}
use Rattle.text_declaration.proofs.lay_synonym_body.Goals as goal

pub lay-p-requires : goal.lay-p-requires
unfolding ascii
lay-p-requires c =
    let a = c.args in
    let whole = chain-start (synonym-body-runs a.words.now a.pairs.now a.text.now a.at) c.requires.1 in
    chain_fits whole

pub lay_type-requires : goal.lay_type-requires
unfolding ascii
lay_type-requires c =
    let a = c.args in
    let whole = chain-start (synonym-body-runs a.words.now a.pairs.now a.text.now a.at) c.requires.1 in
    let type = chain-laid whole c.lay-p.ensures in
    (c.requires.0, chain-ready type)

pub returns-in_err-next : goal.returns-in_err-next
unfolding ascii
returns-in_err-next c =
    let a = c.args in
    let whole = chain-start (synonym-body-runs a.words.now a.pairs.now a.text.now a.at) c.requires.1 in
    let type = chain-laid whole c.lay-p.ensures in
    went-handed c.in_err-next.was c.from_residual.ensures.1 (chain-stop type c.lay_type.ensures c.in_err-next.was)

pub lay-requires : goal.lay-requires
unfolding ascii
lay-requires c =
    let a = c.args in
    let whole = chain-start (synonym-body-runs a.words.now a.pairs.now a.text.now a.at) c.requires.1 in
    let type = chain-laid whole c.lay-p.ensures in
    let end = chain_next type (came-to c.lay_type.ensures c.in_ok-next.was) in
    last_fits end

pub returns : goal.returns
unfolding ascii
returns c =
    let a = c.args in
    let whole = chain-start (synonym-body-runs a.words.now a.pairs.now a.text.now a.at) c.requires.1 in
    let type = chain-laid whole c.lay-p.ensures in
    let end = chain_next type (came-to c.lay_type.ensures c.in_ok-next.was) in
    came (last-laid end c.lay.ensures)
