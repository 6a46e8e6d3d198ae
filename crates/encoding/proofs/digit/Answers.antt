use Rattle.encoding.specs.Tested.{digit_at}
use mathlib.Core.Path.{refl}
use Rattle.encoding.proofs.digit.Goals as goal

pub returns : goal.returns
unfolding digit_at
returns c = refl
