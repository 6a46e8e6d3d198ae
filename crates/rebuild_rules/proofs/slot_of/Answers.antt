use Rattle.rebuild_rules.proofs.Links.{slot-large, slot_small}
use mathlib.Core.Path.{sym}
use native.Mathlib.Omega.{arith}
use Rattle.rebuild_rules.proofs.slot_of.Goals as goal

pub returns-then-word-lt32 : goal.returns-then-word-lt32
returns-then-word-lt32 c = (sym (slot_small _ c.if-word-lt32.true), omega arith, omega (arith, c.if-word-lt32.true))

pub returns : goal.returns
returns c = (sym (slot-large _ c.if-word-lt32.false), omega arith, omega arith)
