use Prim.Native.Nat.{◌*◌, ◌-◌, ◌+◌}
use mathlib.Core.Path.{refl}
use native.Mathlib.Omega.{arith}
use Rattle.encoding.proofs.pair_word.Goals as goal

pub overflow_cast-result : goal.overflow_cast-result
overflow_cast-result c = omega (arith, c.shared_slice_known-1.given (2 * (c.args.name - 16) + c.args.k))

pub returns : goal.returns
returns c = (refl, omega (arith, c.shared_slice_known-1.given (2 * (c.args.name - 16) + c.args.k)))
