use Rattle.encoding.specs.Tables.{name_bytes, name_count}
use Rattle.sound_type.specs.Judging.{NamesOnward}
use Rattle.sound_type.proofs.unjudged_names.Given as goal

abbrev pub invariant-loop-i : goal.invariant-loop-i
invariant-loop-i l = NamesOnward (name_count l.pairs) l.words (name_bytes l.pairs l.text) 0 l.fn.path.start l.end l.i
