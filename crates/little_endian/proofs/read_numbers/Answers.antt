use Rattle.little_endian.proofs.Runs.{run-filled}
use Rattle.little_endian.specs.Numbers.{numbers_at}
use mathlib.Core.Path.{refl}
use native.Mathlib.Omega.{arith}
use Rattle.little_endian.proofs.read_numbers.Goals as goal

pub loop-i-init : goal.loop-i-init
unfolding numbers_at
loop-i-init c = refl

pub loop-i-preserved : goal.loop-i-preserved
loop-i-preserved c = run-filled c.loop-i.out c.args.bytes.now c.args.at c.loop-i.i c.number_at.result (omega arith) c.loop-i.invariant c.number_at.ensures
