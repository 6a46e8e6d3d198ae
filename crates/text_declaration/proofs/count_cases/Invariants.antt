use mathlib.Core.Bool.{false}
use mathlib.Core.List.{[]}
use Rattle.rast.specs.Bytes.{ascii}
use Rattle.text_fields.proofs.Turns.{Turned}
use Rattle.text_declaration.specs.Texts.{case_line_at}
use Rattle.text_declaration.proofs.count_cases.Given as goal

abbrev pub invariant-loop-i : goal.invariant-loop-i
invariant-loop-i l = Turned (case_line_at l.words l.pairs l.text l.level) (ascii ",") false [] l.pos l.n l.at [] l.p l.i l.place
