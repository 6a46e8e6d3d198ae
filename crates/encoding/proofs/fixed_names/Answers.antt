use mathlib.Core.Path.{refl}
use Rattle.rast.specs.Bytes.{ascii}
use Rattle.encoding.proofs.Tables.{starts, letters, fixed-inside, fixed-part}
use Rattle.encoding.proofs.fixed_names.Goals as goal

pub returns : goal.returns
unfolding starts letters ascii
returns c = record { part = fixed-part; inside = fixed-inside; size = refl }
