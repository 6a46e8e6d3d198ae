use Rattle.rebuild_type.proofs.Calls.{attempt-again, attempt-over, denied-fills, filled-fills}
use Rattle.rebuild_calls.proofs.Wholes.{ended-readable}
use native.Mathlib.Omega.{arith}
use Rattle.rebuild_calls.proofs.fill.Goals as goal

pub attempt-requires : goal.attempt-requires
attempt-requires c = let pre = c.requires in (pre.0, pre.1, ended-readable _ pre.3, omega arith)

pub returns-then-out-le-LITTLE_SCRATCH : goal.returns-then-out-le-LITTLE_SCRATCH
returns-then-out-le-LITTLE_SCRATCH c =
    attempt-over c.attempt.ensures c.in-NoRoom.is (omega arith) c.clear.ensures

pub returns-in-Filled : goal.returns-in-Filled
returns-in-Filled c = filled-fills c.attempt.ensures c.in-Filled.is

pub returns-in-Denied : goal.returns-in-Denied
returns-in-Denied c = denied-fills c.attempt.ensures c.in-Denied.is

pub returns-else-out-le-LITTLE_SCRATCH : goal.returns-else-out-le-LITTLE_SCRATCH
returns-else-out-le-LITTLE_SCRATCH c = attempt-again c.attempt.ensures c.in-NoRoom.is c.fill_more-in-NoRoom.ensures
