use borrow.Author.Tests.{ne_eqb}
use Rattle.sound_type.proofs.own_leaf.Goals as goal

pub returns-then-ask-eq2 : goal.returns-then-ask-eq2
returns-then-ask-eq2 c = rw c.if-ask-eq2.true

pub returns : goal.returns
returns c = rw (ne_eqb _ 2 c.if-ask-eq2.false)
