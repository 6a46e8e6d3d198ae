use Rattle.same_type.proofs.Looks.{apart-large, apart-same, apart-small}
use mathlib.Core.Path.{sym}
use Rattle.same_type.proofs.never_agree.Goals as goal

pub returns-then-x-y : goal.returns-then-x-y
returns-then-x-y c = sym (apart-same _ _ c.if-x-y.true)

pub returns-then-x-lt-FIRST_PAIR : goal.returns-then-x-lt-FIRST_PAIR
returns-then-x-lt-FIRST_PAIR c = sym (apart-small _ _ c.if-x-y.false c.if-x-lt-FIRST_PAIR.true)

pub returns : goal.returns
returns c = sym (apart-large _ _ c.if-x-y.false c.if-x-lt-FIRST_PAIR.false)
