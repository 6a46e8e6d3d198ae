use mathlib.Core.Bool.{true}
use mathlib.Core.Path.{◌≡◌}
use lib.ListN.{length}
use Rattle.text_fields.specs.Texts.{entry_at, entry_gap}
use Rattle.text_fields.proofs.Turns.{Turned}
use Rattle.text_fields.proofs.write_entries.Given as goal

abbrev pub invariant-loop-i : goal.invariant-loop-i
invariant-loop-i l = (length l.out ≡ length l.initial.out) × Turned (entry_at l.words l.pairs l.text l.entry) (entry_gap l.entry l.level) true l.initial.out l.pos l.n l.at l.out l.spot.pos l.i l.spot.next
