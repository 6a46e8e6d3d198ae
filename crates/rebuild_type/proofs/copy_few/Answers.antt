use Rattle.rebuild_type.proofs.Growing.{copy-one, copy-two}
use lib.ListN.{get_or, length-set}
use native.Mathlib.Omega.{arith}
use Rattle.rebuild_type.proofs.copy_few.Goals as goal

pub returns-then-count-eq1 : goal.returns-then-count-eq1
returns-then-count-eq1 c =
    let s = c in let a = s.args in
    rw c.if-count-eq1.true (copy-one a.out.now a.src.now a.pos a.start (omega (arith, s.requires.0, c.if-count-eq1.true)))

pub bounds-out-pos-then-count-eq2-2 : goal.bounds-out-pos-then-count-eq2-2
bounds-out-pos-then-count-eq2-2 c =
    let s = c in let a = s.args in
    omega (arith, s.requires.1, c.if-count-eq2.true, length-set a.out.now a.pos (get_or a.src.now a.start 0))

pub returns-then-count-eq2 : goal.returns-then-count-eq2
returns-then-count-eq2 c =
    let s = c in let a = s.args in
    rw c.if-count-eq2.true (copy-two a.out.now a.src.now a.pos a.start (omega (arith, s.requires.0, c.if-count-eq2.true)))
