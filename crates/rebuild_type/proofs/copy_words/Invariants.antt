use lib.ListN.{drop, take}
use lib.Seq.{sets}
use mathlib.Core.Path.{◌≡◌}
use Rattle.rebuild_type.proofs.copy_words.Given as goal

abbrev pub invariant-loop-i : goal.invariant-loop-i
invariant-loop-i l = l.out ≡ sets l.initial.out l.pos (take l.i (drop l.start l.src))
