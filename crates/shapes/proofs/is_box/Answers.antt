use Rattle.known_paths.specs.declared.Class.TheVariants.{Boxed}
use Rattle.known_paths.specs.Classes.{arity, in_class, is_of}
use Rattle.shapes.specs.Shapes.{IsBox}
use Rattle.std.proofs.Common.{rules}
use Rattle.shapes.proofs.is_box.Goals as goal

pub returns : goal.returns
unfolding IsBox is_of in_class arity
returns c = c.ask.ensures (is_of Boxed) (λ b p. search rules)
