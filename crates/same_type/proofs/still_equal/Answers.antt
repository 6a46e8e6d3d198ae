use Rattle.same_type.proofs.Looks.{alike-other, alike_same}
use mathlib.Core.Path.{sym}
use Rattle.same_type.proofs.still_equal.Goals as goal

pub returns-then-x-y : goal.returns-then-x-y
returns-then-x-y c = sym (alike_same _ _ _ c.if-x-y.true)

pub returns : goal.returns
returns c = sym (alike-other _ _ _ c.if-x-y.false)
