use Rattle.text_fields.proofs.Fields.{went-handed}
use Rattle.text_declaration.proofs.Declarations.{front-runs}
use Rattle.text_pass.proofs.Passes.{came-to, chain_next, chain-ready, chain-start, chain-stop, last-ready, last-went}
use Rattle.text_declaration.proofs.lay_front.Goals as goal

pub lay_doc-requires : goal.lay_doc-requires
lay_doc-requires c =
    let a = c.args in
    let whole = chain-start (front-runs a.words.now a.pairs.now a.text.now a.head a.level a.at) c.requires.2 in
    (c.requires.0, chain-ready whole)

pub returns-in_err-q : goal.returns-in_err-q
returns-in_err-q c =
    let a = c.args in
    let whole = chain-start (front-runs a.words.now a.pairs.now a.text.now a.head a.level a.at) c.requires.2 in
    went-handed c.in_err-q.was c.from_residual.ensures.1 (chain-stop whole c.lay_doc.ensures c.in_err-q.was)

pub lay_attributes-requires : goal.lay_attributes-requires
lay_attributes-requires c =
    let a = c.args in
    let whole = chain-start (front-runs a.words.now a.pairs.now a.text.now a.head a.level a.at) c.requires.2 in
    let attributes = chain_next whole (came-to c.lay_doc.ensures c.in_ok-q.was) in
    (c.requires.0, c.requires.1, chain-ready attributes)

pub returns-in_err-next : goal.returns-in_err-next
returns-in_err-next c =
    let a = c.args in
    let whole = chain-start (front-runs a.words.now a.pairs.now a.text.now a.head a.level a.at) c.requires.2 in
    let attributes = chain_next whole (came-to c.lay_doc.ensures c.in_ok-q.was) in
    went-handed c.in_err-next.was c.from_residual-in_err-next.ensures.1 (chain-stop attributes c.lay_attributes.ensures c.in_err-next.was)

pub lay_title-requires : goal.lay_title-requires
lay_title-requires c =
    let a = c.args in
    let whole = chain-start (front-runs a.words.now a.pairs.now a.text.now a.head a.level a.at) c.requires.2 in
    let attributes = chain_next whole (came-to c.lay_doc.ensures c.in_ok-q.was) in
    let title = chain_next attributes (came-to c.lay_attributes.ensures c.in_ok-next.was) in
    (c.requires.0, last-ready title)

pub returns : goal.returns
returns c =
    let a = c.args in
    let whole = chain-start (front-runs a.words.now a.pairs.now a.text.now a.head a.level a.at) c.requires.2 in
    let attributes = chain_next whole (came-to c.lay_doc.ensures c.in_ok-q.was) in
    let title = chain_next attributes (came-to c.lay_attributes.ensures c.in_ok-next.was) in
    last-went title c.lay_title.ensures
