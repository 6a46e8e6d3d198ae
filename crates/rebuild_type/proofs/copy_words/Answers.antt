use Prim.Native.Nat.{◌+◌, ◌<◌}
use Rattle.rebuild_type.proofs.Growing.{copy_more}
use lib.ListN.{length}
use mathlib.Core.Path.{◌∙◌, ◌≡◌, refl}
use native.Mathlib.Omega.{arith}
use Rattle.rebuild_type.proofs.copy_words.Goals as goal

pub loop-i-preserved : goal.loop-i-preserved
loop-i-preserved c =
    let a = c.args in let l = c.loop-i in
    let h : a.start + l.i < length a.src.now = omega arith in
    rw l.invariant (copy_more a.out.now a.src.now a.pos a.start l.i h)

pub returns : goal.returns
returns c =
    let l = c.loop-i in
    let e : l.i ≡ c.args.count = omega arith in
    l.invariant ∙ rw e refl
