use Prim.Native.Nat.{◌+◌, ◌-◌, ◌<◌}
use native.Mathlib.Nat.{add-zero, sub-zero}
use mathlib.Core.Path.{◌≡◌, ◌∙◌}
use lib.ListN.{length}
use Rattle.buffer.proofs.Laws.{copied_more}
use native.Mathlib.Omega.{arith}
use Rattle.buffer.proofs.copy.Goals as goal

pub loop-i-init : goal.loop-i-init
loop-i-init c = simp (add-zero, sub-zero)

pub loop-i-preserved : goal.loop-i-preserved
loop-i-preserved c =
    let l = c.loop-i in
    let a = c.args in
    let h : l.i < a.count = omega arith in
    let k : a.start + l.i < length a.bytes.now = omega arith in
    copied_more a.bytes.now l.out a.start a.count a.pos l.i h k ∙ l.invariant

pub returns : goal.returns
returns c =
    let l = c.loop-i in
    let a = c.args in
    let z : a.count - l.i ≡ 0 = omega arith in
    rw z at l.invariant
