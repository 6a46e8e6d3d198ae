use Rattle.rebuild_type.proofs.Calls.{attempt-over, denied-fills, filled-fills}
use Rattle.rebuild_calls.proofs.Wholes.{ended-readable}
use native.Mathlib.Omega.{arith}
use Rattle.rebuild_calls.proofs.fill_large.Goals as goal

pub attempt-requires : goal.attempt-requires
attempt-requires c = let pre = c.requires in (pre.0, pre.1, ended-readable _ pre.3, omega arith)

pub returns-in-Filled : goal.returns-in-Filled
returns-in-Filled c = filled-fills c.attempt.ensures c.in-Filled.is

pub returns-in-Denied : goal.returns-in-Denied
returns-in-Denied c = denied-fills c.attempt.ensures c.in-Denied.is

pub returns-in-NoRoom : goal.returns-in-NoRoom
returns-in-NoRoom c = attempt-over c.attempt.ensures c.in-NoRoom.is (omega arith) c.clear.ensures
