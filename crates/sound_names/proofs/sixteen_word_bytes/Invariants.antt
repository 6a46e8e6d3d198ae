use Prim.Native.Nat.{◌+◌, ◌≤◌}
use mathlib.Core.Path.{◌≡◌}
use Rattle.sound_names.specs.Words.{WordBytes}
use Rattle.sound_names.proofs.sixteen_word_bytes.Given as goal

abbrev pub invariant-loop-j : goal.invariant-loop-j
invariant-loop-j l = (l.sum ≡ 0 → WordBytes l.text l.at (l.at + l.j)) × (l.sum ≤ l.j)
