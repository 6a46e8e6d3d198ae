use mathlib.Core.Path.{◌∙◌}
use Rattle.encoding.proofs.Primitives.{plain-length, plain-short}
use native.Mathlib.Omega.{arith}
use borrow.Author.Rules.{rules}
use Rattle.encoding.proofs.primitive_length.Goals as goal

pub returns : goal.returns
returns c =
    let k = c.args.kind in
    let e = c.digit.ensures ∙ plain-length k (search rules) in
    (e, omega (arith, e, plain-short k (search rules)))
