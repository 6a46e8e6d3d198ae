use Prim.Native.Nat.{◌+◌, ◌-◌, ◌*◌, ◌^◌, ◌≤◌}
use mathlib.Core.Path.{◌≡◌}
use lib.ListN.{take, drop}
use Rattle.encoding.specs.Tested.{name_length}
use Rattle.text_measure.specs.Lengths.{names_length}
use Rattle.text_measure.proofs.PathNames.{NamesTo}
use Rattle.text_measure.proofs.measure_names.Given as goal

-- what is left of the names is read as all of them are, and their lengths add up
abbrev pub invariant-loop-i : goal.invariant-loop-i
invariant-loop-i l =
    NamesTo l.bound l.words l.path.start l.end l.i × (l.bytes ≤ 5 + l.i * (2 ^ 32 + 2))
    × (l.bytes + names_length (name_length l.pairs) (take (l.end - l.i) (drop l.i l.words))
    ≡ l.initial.bytes + names_length (name_length l.pairs) (take (l.end - l.path.start) (drop l.path.start l.words)))
