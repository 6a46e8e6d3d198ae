use Rattle.same_type.proofs.Steps.{front-name}
use Rattle.encoding.proofs.Names.{fixed-short, same-apart}
use Rattle.encoding.proofs.Tables.{name-length}
use Rattle.encoding.specs.Tables.{name_bytes}
use Rattle.rast.specs.Bytes.{same}
use mathlib.Core.Path.{◌∙◌, ap, sym}
use native.Mathlib.Omega.{arith}
use Rattle.same_type.proofs.are_fixed.Goals as goal

pub returns-then-name_length-bytes : goal.returns-then-name_length-bytes
returns-then-name_length-bytes c =
    let a = c.args in
    sym (same-apart (name_bytes a.pairs.now a.text.now a.k) a.bytes.now (λ e. c.if-name_length-bytes.true (c.name_length.ensures ∙ sym (name-length a.pairs.now a.text.now a.k c.requires.1 (omega (arith, c.requires.0))) ∙ e)))

pub put_name-n-requires : goal.put_name-n-requires
put_name-n-requires c =
    let a = c.args in
    (omega (arith, c.requires.0), c.requires.1, omega (arith, fixed-short a.pairs.now a.text.now a.k c.requires.0))

pub part-requires : goal.part-requires
part-requires c =
    let a = c.args in
    (omega arith, omega (arith, c.put_name-n.ensures.next, fixed-short a.pairs.now a.text.now a.k c.requires.0))

pub returns : goal.returns
returns c =
    let a = c.args in
    c.same_bytes.ensures ∙ ap (λ x. same x a.bytes.now) (c.part.ensures ∙ front-name (fixed-short a.pairs.now a.text.now a.k c.requires.0) c.put_name-n.ensures)
