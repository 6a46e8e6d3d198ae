use Prim.Native.Nat.{◌-◌}
use mathlib.Core.Path.{refl}
use Rattle.accept_type.proofs.Walks.{level-set}
use Rattle.accept_type.proofs.enter.Goals as goal

pub returns : goal.returns
returns c = (refl, level-set c.args.levels.now c.args.walk.depth (c.args.walk.due - 1))
