use borrow.Author.Tests.{ne_eqb}
use Rattle.sound_type.proofs.own_both.Goals as goal

pub returns-then-ask-eq3 : goal.returns-then-ask-eq3
returns-then-ask-eq3 c = rw c.if-ask-eq3.true

pub returns : goal.returns
returns c = rw (ne_eqb _ 3 c.if-ask-eq3.false) c.own_node.ensures
