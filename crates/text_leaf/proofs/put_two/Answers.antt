use Prim.Native.Nat.{ℕ, suc, ◌+◌, ◌/◌, ◌%◌}
use mathlib.Core.Path.{◌≡◌, ap}
use lib.ListN.{set}
use native.Mathlib.Omega.{arith}
use Rattle.text_leaf.specs.Texts.{two_bytes}
use Rattle.text_leaf.proofs.put_two.Goals as goal

pub returns : goal.returns
unfolding two_bytes
returns c =
    let a = c.args in
    let high : a.two / 256 % 256 ≡ a.two / 256 = omega arith in
    rw (c.to_le_bytes.ensures, high) (ap (λ (k : ℕ). set (set a.out.now a.pos (a.two % 256)) k (a.two / 256)) (let e : a.pos + 1 ≡ suc a.pos = omega arith in e))
