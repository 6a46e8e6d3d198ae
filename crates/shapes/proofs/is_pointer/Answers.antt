use Rattle.known_paths.specs.declared.Class.TheVariants.{PtrClass}
use Rattle.known_paths.specs.Classes.{arity, in_class, is_of}
use Rattle.shapes.specs.Shapes.{IsPointer}
use Rattle.std.proofs.Common.{rules}
use Rattle.shapes.proofs.is_pointer.Goals as goal

pub returns : goal.returns
unfolding IsPointer is_of in_class arity
returns c = c.ask.ensures (is_of PtrClass) (λ b p. search rules)
