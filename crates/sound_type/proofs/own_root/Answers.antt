use borrow.Author.Tests.{ne_eqb}
use Rattle.sound_type.proofs.own_root.Goals as goal

pub returns-then-path-ne-GLOBAL : goal.returns-then-path-ne-GLOBAL
returns-then-path-ne-GLOBAL c = rw (ne_eqb _ 0 c.if-path-ne-GLOBAL.true)

pub returns-then-ask-eq0 : goal.returns-then-ask-eq0
returns-then-ask-eq0 c = rw (c.if-path-ne-GLOBAL.false, c.if-ask-eq0.true)

pub returns : goal.returns
returns c = rw (c.if-path-ne-GLOBAL.false, ne_eqb _ 0 c.if-ask-eq0.false)
