use Prim.Native.Nat.{◌-◌}
use mathlib.Core.Path.{◌≡◌}
use Rattle.encoding.specs.Reading.{read_names}
use Rattle.encoding.proofs.scan_names.Given as goal

abbrev pub invariant-loop : goal.invariant-loop
invariant-loop l = read_names l.bound l.words (l.count - l.counter) l.pos ≡ read_names l.bound l.words l.count l.at
