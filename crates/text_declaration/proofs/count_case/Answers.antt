use Rattle.text_fields.proofs.Fields.{went-handed}
use Rattle.text_declaration.proofs.Declarations.{case-runs}
use Rattle.text_pass.proofs.Passes.{came-to, chain_next, chain-start, chain-stop, counts-here, last-went, ready-count}
use Rattle.text_declaration.proofs.count_case.Goals as goal

pub returns-in_err-q : goal.returns-in_err-q
returns-in_err-q c =
    let a = c.args in
    let whole = chain-start (case-runs a.words.now a.pairs.now a.text.now a.level a.at) ready-count in
    went-handed c.in_err-q.was c.from_residual.ensures.1 (chain-stop whole c.count_doc.ensures c.in_err-q.was)

pub returns-in_err-next : goal.returns-in_err-next
returns-in_err-next c =
    let a = c.args in
    let whole = chain-start (case-runs a.words.now a.pairs.now a.text.now a.level a.at) ready-count in
    let name = chain_next whole (came-to c.count_doc.ensures c.in_ok-q.was) in
    went-handed c.in_err-next.was c.from_residual-in_err-next.ensures.1 (chain-stop name (counts-here c.count_name.ensures) c.in_err-next.was)

pub returns : goal.returns
returns c =
    let a = c.args in
    let whole = chain-start (case-runs a.words.now a.pairs.now a.text.now a.level a.at) ready-count in
    let name = chain_next whole (came-to c.count_doc.ensures c.in_ok-q.was) in
    last-went (chain_next name (came-to (counts-here c.count_name.ensures) c.in_ok-next.was)) c.count_case_fields.ensures
