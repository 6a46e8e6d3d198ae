use mathlib.Core.Path.{refl}
use Rattle.buffer.proofs.Passes.{laid-size}
use Rattle.text_fields.proofs.Fields.{some_runs, went-handed}
use Rattle.text_pass.proofs.Passes.{came-to, chain-laid, chain_next, chain-start, chain-stop, last-laid, ready-count}
use Rattle.text_pass.specs.Passes.{came}
use Rattle.text_fields.proofs.count_some.Goals as goal

pub returns-in_err-next : goal.returns-in_err-next
returns-in_err-next c =
    let a = c.args in
    let entries = chain-laid (chain-start (some_runs a.words.now a.pairs.now a.text.now a.entry a.level a.n a.at c.is_named-named.ensures) ready-count) (laid-size refl c.count_few-p.ensures c.front_length.ensures.0) in
    went-handed c.in_err-next.was c.from_residual.ensures.1 (chain-stop entries c.count_entries.ensures c.in_err-next.was)

pub returns : goal.returns
returns c =
    let a = c.args in
    let entries = chain-laid (chain-start (some_runs a.words.now a.pairs.now a.text.now a.entry a.level a.n a.at c.is_named-named.ensures) ready-count) (laid-size refl c.count_few-p.ensures c.front_length.ensures.0) in
    came (last-laid (chain_next entries (came-to c.count_entries.ensures c.in_ok-next.was)) (laid-size refl c.count_few.ensures c.end_length.ensures.0))
