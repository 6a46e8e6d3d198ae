use Rattle.declaration_walk.specs.Walks.{end}
use native.Mathlib.Omega.{arith}
use Rattle.declaration_walk.proofs.next_member.Goals as goal

pub returns : goal.returns
returns c =
    end c.requires.0 c.requires.1 c.requires.2 (omega (arith, c.if-walk-ne0.false)) (omega (arith, c.if-walk-ne0-2.false))
