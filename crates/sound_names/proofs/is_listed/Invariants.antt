use mathlib.Core.Path.{◌≡◌}
use lib.ListN.{drop}
use Rattle.rast.specs.Bytes.{among}
use Rattle.rast.specs.Sound.{excluded}
use Rattle.sound_names.proofs.is_listed.Given as goal

abbrev pub invariant-loop-k : goal.invariant-loop-k
invariant-loop-k l = among l.bytes (drop l.k excluded) ≡ among l.bytes excluded
