use Rattle.same_type.proofs.Steps.{no_name}
use mathlib.Core.Path.{◌∙◌, sym}
use native.Mathlib.Omega.{arith}
use Rattle.same_type.proofs.other_bytes.Goals as goal

pub returns-then-name_count-name : goal.returns-then-name_count-name
returns-then-name_count-name c =
    let a = c.args in
    c.part.ensures ∙ sym (no_name a.pairs.now a.text.now a.name (omega (arith, c.if-name_count-name.true, c.name_count.ensures)))

pub pair_bytes-requires : goal.pair_bytes-requires
pair_bytes-requires c = (c.requires.0, omega (arith, c.if-name_count-name.false, c.name_count.ensures), c.requires.1)

pub returns : goal.returns
returns c = c.pair_bytes.ensures
