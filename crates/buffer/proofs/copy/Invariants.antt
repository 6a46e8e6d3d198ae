use Prim.Native.Nat.{◌+◌, ◌-◌}
use mathlib.Core.Path.{◌≡◌}
use lib.ListN.{take, drop}
use lib.Seq.{sets}
use Rattle.buffer.proofs.copy.Given as goal

abbrev pub invariant-loop-i : goal.invariant-loop-i
invariant-loop-i l = sets l.out (l.pos + l.i) (take (l.count - l.i) (drop (l.start + l.i) l.bytes)) ≡ sets l.initial.out l.pos (take l.count (drop l.start l.bytes))
