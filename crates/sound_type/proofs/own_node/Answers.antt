use borrow.Author.Tests.{ne_eqb}
use Rattle.sound_type.proofs.own_node.Goals as goal

pub returns-then-ask-eq0 : goal.returns-then-ask-eq0
returns-then-ask-eq0 c = rw c.if-ask-eq0.true

pub returns-then-ask-eq2 : goal.returns-then-ask-eq2
returns-then-ask-eq2 c = rw c.if-ask-eq2.true

pub returns : goal.returns
returns c = rw (ne_eqb _ 0 c.if-ask-eq0.false, ne_eqb _ 2 c.if-ask-eq2.false)
