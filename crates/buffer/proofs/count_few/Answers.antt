use Rattle.buffer.proofs.Passes.{clamp-large}
use mathlib.Core.Path.{◌∙◌, sym}
use native.Mathlib.Omega.{arith}
use Rattle.buffer.proofs.count_few.Goals as goal

pub returns-then-pos-ge-LIMIT : goal.returns-then-pos-ge-LIMIT
returns-then-pos-ge-LIMIT c = clamp-large _ (omega (arith, c.if-pos-ge-LIMIT.true)) ∙ sym (clamp-large _ (omega (arith, c.if-pos-ge-LIMIT.true)))
