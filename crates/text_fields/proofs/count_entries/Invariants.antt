use mathlib.Core.Bool.{false}
use mathlib.Core.List.{[]}
use Rattle.text_fields.specs.Texts.{entry_at, entry_gap}
use Rattle.text_fields.proofs.Turns.{Turned}
use Rattle.text_fields.proofs.count_entries.Given as goal

abbrev pub invariant-loop-i : goal.invariant-loop-i
invariant-loop-i l = Turned (entry_at l.words l.pairs l.text l.entry) (entry_gap l.entry l.level) false [] l.pos l.n l.at [] l.p l.i l.place
