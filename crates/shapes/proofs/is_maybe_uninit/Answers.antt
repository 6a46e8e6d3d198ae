use Rattle.known_paths.specs.declared.Class.TheVariants.{Uninit}
use Rattle.known_paths.specs.Classes.{arity, in_class, is_of}
use Rattle.shapes.specs.Shapes.{IsMaybeUninit}
use Rattle.std.proofs.Common.{rules}
use Rattle.shapes.proofs.is_maybe_uninit.Goals as goal

pub returns : goal.returns
unfolding IsMaybeUninit is_of in_class arity
returns c = c.ask.ensures (is_of Uninit) (λ b p. search rules)
