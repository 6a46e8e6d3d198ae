use Rattle.same_type.proofs.Steps.{no_name}
use Rattle.encoding.proofs.Tables.{name-length}
use lib.ListN.{length}
use mathlib.Core.Path.{◌∙◌, ap, sym}
use native.Mathlib.Omega.{arith}
use Rattle.same_type.proofs.name_size.Goals as goal

pub returns-then-name_count-name : goal.returns-then-name_count-name
returns-then-name_count-name c =
    let a = c.args in
    sym (ap length (no_name a.pairs.now a.text.now a.name (omega (arith, c.if-name_count-name.true, c.name_count.ensures))))

pub returns : goal.returns
returns c =
    let s = c in let a = s.args in
    c.name_length.ensures ∙ sym (name-length a.pairs.now a.text.now a.name s.requires (omega (arith, c.if-name_count-name.false, c.name_count.ensures)))
