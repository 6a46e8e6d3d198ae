use mathlib.Core.Path.{refl}
use Rattle.text_fields.proofs.Fields.{went-handed}
use native.Mathlib.Omega.{arith}
use Rattle.buffer.proofs.Passes.{laid-nothing}
use Rattle.text_declaration.proofs.Declarations.{variants-first}
use Rattle.text_pass.proofs.Leaves.{count_none, count-refused, count-some}
use Rattle.text_pass.proofs.Passes.{last-ready, last-went}
use Rattle.text_pass.specs.Passes.{came}
use Rattle.text_declaration.proofs.lay_variants.Goals as goal

pub returns-then-value-eq0 : goal.returns-then-value-eq0
returns-then-value-eq0 c =
    let a = c.args in
    came (count_none (variants-first a.words.now a.pairs.now a.text.now a.level a.at) c.scan_word.ensures c.in_ok-value.was c.if-value-eq0.true (laid-nothing _ _))

pub lay_cases-requires : goal.lay_cases-requires
lay_cases-requires c =
    let a = c.args in
    let cases = count-some (variants-first a.words.now a.pairs.now a.text.now a.level a.at) c.scan_word.ensures c.in_ok-value.was c.if-value-eq0.false c.requires.2 in
    (c.requires.0, omega (arith, c.if-value-eq0.false), c.requires.1, last-ready cases)

pub returns : goal.returns
returns c =
    let a = c.args in
    let cases = count-some (variants-first a.words.now a.pairs.now a.text.now a.level a.at) c.scan_word.ensures c.in_ok-value.was c.if-value-eq0.false c.requires.2 in
    last-went cases c.lay_cases.ensures

pub returns-in_err-value : goal.returns-in_err-value
returns-in_err-value c =
    let a = c.args in
    went-handed refl c.from_residual.ensures.1 (count-refused (variants-first a.words.now a.pairs.now a.text.now a.level a.at) c.scan_word.ensures c.in_err-value.was)
