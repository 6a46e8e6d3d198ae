use Rattle.sound_type.specs.Judging.{Known}
use Rattle.sound_type.proofs.keep_fixed.Given as goal

abbrev pub invariant-loop-i : goal.invariant-loop-i
invariant-loop-i l = Known l.pairs l.text l.known
