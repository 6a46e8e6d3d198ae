use Rattle.little_endian.specs.Numbers.{numbers_at}
use lib.ListN.{take}
use mathlib.Core.Path.{◌≡◌}
use Rattle.little_endian.proofs.read_numbers.Given as goal

abbrev pub invariant-loop-i : goal.invariant-loop-i
invariant-loop-i l = take l.i l.out ≡ numbers_at l.i l.bytes l.at
