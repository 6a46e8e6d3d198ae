use mathlib.Core.Path.{◌≡◌}
use lib.ListN.{length}
use Rattle.rast.specs.Bytes.{ascii}
use Rattle.text_pass.proofs.Passes.{Turns}
use Rattle.text_pass.specs.Texts.{type_text_at}
use Rattle.text_parameters.proofs.lay_constraints.Given as goal

abbrev pub invariant-loop-i : goal.invariant-loop-i
invariant-loop-i l = (length l.out ≡ length l.initial.out) × Turns (type_text_at l.words l.pairs l.text) (ascii " + ") l.write l.initial.out l.pos l.n l.at l.out l.p l.i l.place
