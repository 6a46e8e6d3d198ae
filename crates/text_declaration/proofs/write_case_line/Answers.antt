use mathlib.Core.Path.{refl}
use native.Mathlib.Omega.{arith}
use Rattle.buffer.proofs.Passes.{laid-wrote}
use Rattle.text_declaration.proofs.Declarations.{case-line-runs}
use Rattle.text_pass.proofs.Passes.{chain_fits, chain-laid, chain-start, last-came, last-ready}
use Rattle.text_declaration.proofs.write_case_line.Goals as goal

pub put_line-p-requires : goal.put_line-p-requires
put_line-p-requires c =
    let a = c.args in
    let whole = chain-start (case-line-runs a.words.now a.pairs.now a.text.now a.level a.at) c.requires.2 in
    (chain_fits whole).room refl

pub write_case-requires : goal.write_case-requires
write_case-requires c =
    let a = c.args in
    let whole = chain-start (case-line-runs a.words.now a.pairs.now a.text.now a.level a.at) c.requires.2 in
    (c.requires.0, omega (arith, c.requires.1), last-ready (chain-laid whole (laid-wrote refl c.put_line-p.ensures)))

pub returns : goal.returns
returns c =
    let a = c.args in
    let whole = chain-start (case-line-runs a.words.now a.pairs.now a.text.now a.level a.at) c.requires.2 in
    last-came (chain-laid whole (laid-wrote refl c.put_line-p.ensures)) c.write_case.ensures
