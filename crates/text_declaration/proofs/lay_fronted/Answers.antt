use Rattle.text_fields.proofs.Fields.{went-handed}
use native.Mathlib.Omega.{arith}
use Rattle.text_declaration.proofs.Declarations.{fronted-runs}
use Rattle.text_pass.proofs.Passes.{came-to, chain_next, chain-ready, chain-start, chain-stop, last-ready, last-went}
use Rattle.text_declaration.proofs.lay_fronted.Goals as goal

pub lay_front-requires : goal.lay_front-requires
lay_front-requires c =
    let a = c.args in
    let whole = chain-start (fronted-runs a.words.now a.pairs.now a.text.now a.head a.level a.at) c.requires.2 in
    (c.requires.0, omega (arith, c.requires.1), chain-ready whole)

pub returns-in_err-next : goal.returns-in_err-next
returns-in_err-next c =
    let a = c.args in
    let whole = chain-start (fronted-runs a.words.now a.pairs.now a.text.now a.head a.level a.at) c.requires.2 in
    went-handed c.in_err-next.was c.from_residual.ensures.1 (chain-stop whole c.lay_front.ensures c.in_err-next.was)

pub lay_body-requires : goal.lay_body-requires
lay_body-requires c =
    let a = c.args in
    let whole = chain-start (fronted-runs a.words.now a.pairs.now a.text.now a.head a.level a.at) c.requires.2 in
    let body = chain_next whole (came-to c.lay_front.ensures c.in_ok-next.was) in
    (c.requires.0, c.requires.1, last-ready body)

pub returns : goal.returns
returns c =
    let a = c.args in
    let whole = chain-start (fronted-runs a.words.now a.pairs.now a.text.now a.head a.level a.at) c.requires.2 in
    let body = chain_next whole (came-to c.lay_front.ensures c.in_ok-next.was) in
    last-went body c.lay_body.ensures
