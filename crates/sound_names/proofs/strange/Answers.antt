use native.Mathlib.Omega.{arith}
use mathlib.Core.Path.{sym, ◌∙◌}
use borrow.Author.Tests.{ne_eqb}
use Rattle.sound_names.proofs.Names.{word_byte}
use Rattle.sound_names.proofs.strange.Goals as goal

pub overflow_add-lies : goal.overflow_add-lies
overflow_add-lies c = omega (arith, c.lies.ensures.1, c.lies-2.ensures.1)

pub overflow_add-lies-2 : goal.overflow_add-lies-2
overflow_add-lies-2 c = omega (arith, c.lies.ensures.1, c.lies-2.ensures.1, c.lies-3.ensures.1)

pub overflow_add-lies-3 : goal.overflow_add-lies-3
overflow_add-lies-3 c = omega (arith, c.lies.ensures.1, c.lies-2.ensures.1, c.lies-3.ensures.1, c.lies-4.ensures.1)

pub returns-then-lies-eq0 : goal.returns-then-lies-eq0
returns-then-lies-eq0 c = (sym (word_byte c.args.b _ _ _ _ c.lies.ensures.0 c.lies-2.ensures.0 c.lies-3.ensures.0 c.lies-4.ensures.0 ∙ rw c.if-lies-eq0.true), omega arith)

pub returns : goal.returns
returns c = (sym (word_byte c.args.b _ _ _ _ c.lies.ensures.0 c.lies-2.ensures.0 c.lies-3.ensures.0 c.lies-4.ensures.0 ∙ rw (ne_eqb _ 0 c.if-lies-eq0.false)), omega arith)
