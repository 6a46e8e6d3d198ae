use Rattle.encoding.specs.Tables.{name_bytes, name_count}
use Rattle.sound_type.specs.Judging.{OnwardAlways}
use Rattle.sound_type.proofs.known_to.Given as goal

abbrev pub invariant-loop-i : goal.invariant-loop-i
invariant-loop-i l = OnwardAlways (name_count l.pairs) l.words (name_bytes l.pairs l.text) l.start l.end l.i
