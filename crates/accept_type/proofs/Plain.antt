-- A plain type is one word.
use Rattle.std.specs.Prelude.{Ok}
use Prim.Native.Nat.{ℕ, ◌+◌, ◌<◌}
use mathlib.Core.Path.{◌≡◌}
use mathlib.Core.List.{List}
use lib.ListN.{length, get_or}
use Rattle.rast.specs.Bytes.{Bytes}
use Rattle.encoding.specs.Words.{plain_kinds}
use Rattle.encoding.specs.Scans.{ended}
use Rattle.encoding.specs.Tables.{name_count}
use Rattle.encoding.specs.Types.{read_node, read_type, type_at}
use Rattle.encoding.proofs.Heads.{plain-head}

pub type-plain : (ws pairs : List ℕ) (text : Bytes) (p : ℕ) → p < length ws → get_or ws p 0 < plain_kinds → ended (type_at ws pairs text p) ≡ Ok (p + 1)
unfolding read_type read_node
type-plain ws pairs text p h k = rw (plain-head (name_count pairs) ws p h k)
