use Prim.Native.Nat.{◌-◌}
use mathlib.Core.Path.{◌≡◌}
use lib.ListN.{take, drop}
use Rattle.rast.specs.Bytes.{each}
use Rattle.rast.specs.Sound.{is_word_byte}
use Rattle.sound_names.proofs.are_word_bytes.Given as goal

abbrev pub invariant-loop-i : goal.invariant-loop-i
invariant-loop-i l =
    each is_word_byte (take (l.end - l.i) (drop l.i l.text)) ≡ each is_word_byte (take (l.end - l.start) (drop l.start l.text))

abbrev pub decreases-loop-i : goal.decreases-loop-i
decreases-loop-i l = l.end - l.i
