use Rattle.encoding.specs.Tables.{name_bytes, name_count}
use Rattle.sound_type.specs.Judging.{Known, NamesOnward}
use Rattle.sound_type.proofs.new_names.Given as goal

abbrev pub invariant-loop-i : goal.invariant-loop-i
invariant-loop-i l = NamesOnward (name_count l.pairs) l.words (name_bytes l.pairs l.text) l.ask l.start l.end l.i × Known l.pairs l.text l.known
