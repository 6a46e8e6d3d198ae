use Rattle.text_fields.proofs.Fields.{went-handed}
use Rattle.rast.specs.Bytes.{ascii}
use Rattle.text_declaration.proofs.Declarations.{use-runs}
use Rattle.text_pass.proofs.Passes.{came-to, chain_fits, chain-laid, chain_next, chain-ready, chain-start, chain-stop, last_fits, last-laid}
use Rattle.text_pass.specs.Passes.{came}
use Rattle.text_declaration.proofs.lay_use.Goals as goal

pub lay_visibility-requires : goal.lay_visibility-requires
lay_visibility-requires c =
    let a = c.args in
    let whole = chain-start (use-runs a.words.now a.pairs.now a.text.now a.at) c.requires.1 in
    chain-ready whole

pub returns-in_err-q : goal.returns-in_err-q
returns-in_err-q c =
    let a = c.args in
    let whole = chain-start (use-runs a.words.now a.pairs.now a.text.now a.at) c.requires.1 in
    went-handed c.in_err-q.was c.from_residual.ensures.1 (chain-stop whole c.lay_visibility.ensures c.in_err-q.was)

pub lay-p-requires : goal.lay-p-requires
unfolding ascii
lay-p-requires c =
    let a = c.args in
    let whole = chain-start (use-runs a.words.now a.pairs.now a.text.now a.at) c.requires.1 in
    let keyword = chain_next whole (came-to c.lay_visibility.ensures c.in_ok-q.was) in
    chain_fits keyword

pub lay_path-requires : goal.lay_path-requires
unfolding ascii
lay_path-requires c =
    let a = c.args in
    let whole = chain-start (use-runs a.words.now a.pairs.now a.text.now a.at) c.requires.1 in
    let keyword = chain_next whole (came-to c.lay_visibility.ensures c.in_ok-q.was) in
    let path = chain-laid keyword c.lay-p.ensures in
    (c.requires.0, chain-ready path)

pub returns-in_err-next : goal.returns-in_err-next
unfolding ascii
returns-in_err-next c =
    let a = c.args in
    let whole = chain-start (use-runs a.words.now a.pairs.now a.text.now a.at) c.requires.1 in
    let keyword = chain_next whole (came-to c.lay_visibility.ensures c.in_ok-q.was) in
    let path = chain-laid keyword c.lay-p.ensures in
    went-handed c.in_err-next.was c.from_residual-in_err-next.ensures.1 (chain-stop path c.lay_path.ensures c.in_err-next.was)

pub lay-requires : goal.lay-requires
unfolding ascii
lay-requires c =
    let a = c.args in
    let whole = chain-start (use-runs a.words.now a.pairs.now a.text.now a.at) c.requires.1 in
    let keyword = chain_next whole (came-to c.lay_visibility.ensures c.in_ok-q.was) in
    let path = chain-laid keyword c.lay-p.ensures in
    let end = chain_next path (came-to c.lay_path.ensures c.in_ok-next.was) in
    last_fits end

pub returns : goal.returns
unfolding ascii
returns c =
    let a = c.args in
    let whole = chain-start (use-runs a.words.now a.pairs.now a.text.now a.at) c.requires.1 in
    let keyword = chain_next whole (came-to c.lay_visibility.ensures c.in_ok-q.was) in
    let path = chain-laid keyword c.lay-p.ensures in
    let end = chain_next path (came-to c.lay_path.ensures c.in_ok-next.was) in
    came (last-laid end c.lay.ensures)
