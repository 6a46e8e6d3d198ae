use Prim.Native.Nat.{◌-◌}
use Rattle.encoding.specs.Tables.{name_bytes}
use Rattle.rebuild_rules.specs.Table.{repeated_from}
use mathlib.Core.Path.{◌≡◌}
use Rattle.rebuild_rules.proofs.are_repeated.Given as goal

abbrev pub invariant-loop-i : goal.invariant-loop-i
invariant-loop-i l = repeated_from (name_bytes l.pairs l.text) l.rules l.table l.i (l.k - l.i) ≡ repeated_from (name_bytes l.pairs l.text) l.rules l.table 0 l.k
