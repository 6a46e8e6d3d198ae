use Rattle.same_type.proofs.Looks.{look-same, look-unclear}
use mathlib.Core.Path.{sym}
use Rattle.same_type.proofs.look_of.Goals as goal

pub returns-then-equal : goal.returns-then-equal
returns-then-equal c = sym (look-same _ c.if-equal.true)

pub returns : goal.returns
returns c = sym (look-unclear _ c.if-equal.false)
