use Rattle.text_fields.proofs.Fields.{field-runs, went-handed}
use Rattle.text_pass.proofs.Passes.{came-to, chain_next, chain-start, chain-stop, last-went, ready-count}
use Rattle.text_fields.proofs.count_field.Goals as goal

pub returns-in_err-next : goal.returns-in_err-next
returns-in_err-next c =
    let a = c.args in
    let field = chain-start (field-runs a.words.now a.pairs.now a.text.now a.named a.at) ready-count in
    went-handed c.in_err-next.was c.from_residual.ensures.1 (chain-stop field c.count_visibility.ensures c.in_err-next.was)

pub returns : goal.returns
returns c =
    let a = c.args in
    let field = chain-start (field-runs a.words.now a.pairs.now a.text.now a.named a.at) ready-count in
    last-went (chain_next field (came-to c.count_visibility.ensures c.in_ok-next.was)) c.count_rest.ensures
