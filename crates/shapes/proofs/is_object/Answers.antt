use Rattle.known_paths.specs.declared.Class.TheVariants.{ObjectClass}
use Rattle.known_paths.specs.Classes.{arity, in_class, is_of}
use Rattle.shapes.specs.Shapes.{IsObject}
use Rattle.std.proofs.Common.{rules}
use Rattle.shapes.proofs.is_object.Goals as goal

pub returns : goal.returns
unfolding IsObject is_of in_class arity
returns c = c.ask.ensures (is_of ObjectClass) (λ b p. search rules)
