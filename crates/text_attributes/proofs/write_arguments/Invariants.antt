use mathlib.Core.Path.{◌≡◌}
use mathlib.Core.Bool.{true}
use lib.ListN.{length}
use Rattle.rast.specs.Bytes.{ascii}
use Rattle.text_pass.specs.Texts.{name_at}
use Rattle.text_pass.proofs.Passes.{Turns}
use Rattle.text_attributes.proofs.write_arguments.Given as goal

abbrev pub invariant-loop-i : goal.invariant-loop-i
invariant-loop-i l = (length l.out ≡ length l.initial.out) × Turns (name_at l.words l.pairs l.text) (ascii ", ") true l.initial.out l.pos l.n l.at l.out l.p l.i l.place
