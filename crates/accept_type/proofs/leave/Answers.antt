use Prim.Native.Nat.{◌*◌, ◌-◌, ◌/◌, ◌%◌}
use mathlib.Core.Path.{◌≡◌}
use lib.ListN.{get_or}
use Rattle.accept_type.proofs.Walks.{level-at}
use native.Mathlib.Omega.{arith}
use Rattle.accept_type.proofs.leave.Goals as goal

pub returns : goal.returns
returns c =
    let a = c.args in
    let l = get_or a.levels.now (a.walk.depth - 1) 0 in
    let d : (2 * (l / 2)) / 2 ≡ l / 2 = omega arith in
    let m : (2 * (l / 2)) % 2 ≡ 0 = omega arith in
    (rw (c.level_due.ensures.0, level-at a.levels.now (a.walk.depth - 1), d, m), c.level_due.ensures.1)
