use Rattle.text_fields.proofs.Fields.{went-handed}
use Rattle.rast.specs.Bytes.{ascii}
use Rattle.text_declaration.proofs.Declarations.{enum-body-runs}
use Rattle.text_pass.proofs.Passes.{came-to, chain_fits, chain-laid, chain_next, chain-ready, chain-start, chain-stop, last_fits, last-laid}
use Rattle.text_pass.specs.Passes.{came}
use Rattle.text_declaration.proofs.lay_enum_body.Goals as goal

pub lay-p-requires : goal.lay-p-requires
unfolding ascii
lay-p-requires c =
    let a = c.args in
    let whole = chain-start (enum-body-runs a.words.now a.pairs.now a.text.now a.level a.at) c.requires.2 in
    chain_fits whole

pub lay_variants-requires : goal.lay_variants-requires
unfolding ascii
lay_variants-requires c =
    let a = c.args in
    let whole = chain-start (enum-body-runs a.words.now a.pairs.now a.text.now a.level a.at) c.requires.2 in
    let variants = chain-laid whole c.lay-p.ensures in
    (c.requires.0, c.requires.1, chain-ready variants)

pub returns-in_err-next : goal.returns-in_err-next
unfolding ascii
returns-in_err-next c =
    let a = c.args in
    let whole = chain-start (enum-body-runs a.words.now a.pairs.now a.text.now a.level a.at) c.requires.2 in
    let variants = chain-laid whole c.lay-p.ensures in
    went-handed c.in_err-next.was c.from_residual.ensures.1 (chain-stop variants c.lay_variants.ensures c.in_err-next.was)

pub lay_line-p-requires : goal.lay_line-p-requires
unfolding ascii
lay_line-p-requires c =
    let a = c.args in
    let whole = chain-start (enum-body-runs a.words.now a.pairs.now a.text.now a.level a.at) c.requires.2 in
    let variants = chain-laid whole c.lay-p.ensures in
    let end = chain_next variants (came-to c.lay_variants.ensures c.in_ok-next.was) in
    chain_fits end

pub lay-requires : goal.lay-requires
unfolding ascii
lay-requires c =
    let a = c.args in
    let whole = chain-start (enum-body-runs a.words.now a.pairs.now a.text.now a.level a.at) c.requires.2 in
    let variants = chain-laid whole c.lay-p.ensures in
    let end = chain_next variants (came-to c.lay_variants.ensures c.in_ok-next.was) in
    last_fits (chain-laid end c.lay_line-p.ensures)

pub returns : goal.returns
unfolding ascii
returns c =
    let a = c.args in
    let whole = chain-start (enum-body-runs a.words.now a.pairs.now a.text.now a.level a.at) c.requires.2 in
    let variants = chain-laid whole c.lay-p.ensures in
    let end = chain_next variants (came-to c.lay_variants.ensures c.in_ok-next.was) in
    came (last-laid (chain-laid end c.lay_line-p.ensures) c.lay.ensures)
