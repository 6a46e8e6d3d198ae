use Rattle.known_paths.specs.declared.Class.TheVariants.{Counted}
use Rattle.known_paths.specs.Classes.{arity, in_class, is_of}
use Rattle.shapes.specs.Shapes.{IsRc}
use Rattle.std.proofs.Common.{rules}
use Rattle.shapes.proofs.is_rc.Goals as goal

pub returns : goal.returns
unfolding IsRc is_of in_class arity
returns c = c.ask.ensures (is_of Counted) (λ b p. search rules)
