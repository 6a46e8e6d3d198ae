use Rattle.text_declaration_call.proofs.Filling.{Turn, turns}
use Rattle.encoding.specs.Declarations.{declaration_at}
use Rattle.rast.specs.DeclarationToString.{Declaration-to_string}
use lib.ListN.{length}
use mathlib.Core.Path.{◌≡◌}
use Rattle.text_declaration_call.proofs.fill.Given as goal

abbrev pub invariant-loop-next : goal.invariant-loop-next
invariant-loop-next l = (length l.out ≡ length l.initial.out) × Turn (Declaration-to_string l.level) (declaration_at l.words l.pairs l.text 0) (length l.words) l.initial.out l.write l.out

abbrev pub decreases-loop-next : goal.decreases-loop-next
decreases-loop-next l = turns l.write
