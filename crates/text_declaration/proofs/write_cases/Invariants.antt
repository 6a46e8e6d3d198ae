use mathlib.Core.Bool.{true}
use mathlib.Core.Path.{◌≡◌}
use lib.ListN.{length}
use Rattle.rast.specs.Bytes.{ascii}
use Rattle.text_fields.proofs.Turns.{Turned}
use Rattle.text_declaration.specs.Texts.{case_line_at}
use Rattle.text_declaration.proofs.write_cases.Given as goal

abbrev pub invariant-loop-i : goal.invariant-loop-i
invariant-loop-i l = (length l.out ≡ length l.initial.out) × Turned (case_line_at l.words l.pairs l.text l.level) (ascii ",") true l.initial.out l.pos l.n l.at l.out l.spot.pos l.i l.spot.next
