use Rattle.declaration_walk.specs.Walks.{alias, type-due}
use native.Mathlib.Omega.{arith}
use Rattle.declaration_walk.proofs.next_piece.Goals as goal

pub returns-then-walk-ne0 : goal.returns-then-walk-ne0
returns-then-walk-ne0 c = type-due (omega (arith, c.if-walk-ne0.true))

pub returns-in-OneType : goal.returns-in-OneType
returns-in-OneType c = alias (omega (arith, c.if-walk-ne0.false)) (omega (arith, c.if-walk-ne0-2.false)) c.in-OneType.is
