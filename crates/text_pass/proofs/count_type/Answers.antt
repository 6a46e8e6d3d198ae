use mathlib.Core.Path.{refl}
use Rattle.encoding.specs.Types.{type_at}
use Rattle.text_pass.proofs.Leaves.{went-measured, went-refused}
use Rattle.text_pass.proofs.Passes.{went-handed}
use Rattle.text_pass.proofs.count_type.Goals as goal

pub returns : goal.returns
returns c =
    let a = c.args in
    went-measured (type_at a.words.now a.pairs.now a.text.now a.at) refl c.measure_type.ensures c.in_ok-next.was c.count_on.ensures

pub returns-in_err-next : goal.returns-in_err-next
returns-in_err-next c =
    let a = c.args in
    went-handed refl c.from_residual.ensures.1 (went-refused (type_at a.words.now a.pairs.now a.text.now a.at) c.measure_type.ensures c.in_err-next.was)
