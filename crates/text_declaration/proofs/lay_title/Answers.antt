use Rattle.text_fields.proofs.Fields.{went-handed}
use Rattle.text_declaration.proofs.Declarations.{title-runs}
use Rattle.text_pass.proofs.Passes.{came-to, chain_fits, chain-laid, chain_next, chain-ready, chain-start, chain-stop, last-ready, last-went}
use Rattle.text_declaration.proofs.lay_title.Goals as goal

pub lay_keyword-p-requires : goal.lay_keyword-p-requires
lay_keyword-p-requires c =
    let a = c.args in
    let whole = chain-start (title-runs a.words.now a.pairs.now a.text.now a.head a.at) c.requires.1 in
    chain_fits whole

pub lay_name-requires : goal.lay_name-requires
lay_name-requires c =
    let a = c.args in
    let whole = chain-start (title-runs a.words.now a.pairs.now a.text.now a.head a.at) c.requires.1 in
    let name = chain-laid whole c.lay_keyword-p.ensures in
    (c.requires.0, chain-ready name)

pub returns-in_err-next : goal.returns-in_err-next
returns-in_err-next c =
    let a = c.args in
    let whole = chain-start (title-runs a.words.now a.pairs.now a.text.now a.head a.at) c.requires.1 in
    let name = chain-laid whole c.lay_keyword-p.ensures in
    went-handed c.in_err-next.was c.from_residual.ensures.1 (chain-stop name c.lay_name.ensures c.in_err-next.was)

pub lay_parameter_list-requires : goal.lay_parameter_list-requires
lay_parameter_list-requires c =
    let a = c.args in
    let whole = chain-start (title-runs a.words.now a.pairs.now a.text.now a.head a.at) c.requires.1 in
    let name = chain-laid whole c.lay_keyword-p.ensures in
    let parameters = chain_next name (came-to c.lay_name.ensures c.in_ok-next.was) in
    (c.requires.0, last-ready parameters)

pub returns : goal.returns
returns c =
    let a = c.args in
    let whole = chain-start (title-runs a.words.now a.pairs.now a.text.now a.head a.at) c.requires.1 in
    let name = chain-laid whole c.lay_keyword-p.ensures in
    let parameters = chain_next name (came-to c.lay_name.ensures c.in_ok-next.was) in
    last-went parameters c.lay_parameter_list.ensures
