use Prim.Native.Nat.{◌%◌}
use mathlib.Core.Path.{◌≡◌}
use lib.ListN.{length}
use Rattle.std.specs.Slice.Iter.{chunks_exact_rest, chunks_exact_size}
use Rattle.encoding.specs.Tables.{good_pairs}
use Rattle.encoding.proofs.pairs_hold.Given as goal

abbrev pub invariant-loop-pair : goal.invariant-loop-pair
invariant-loop-pair l =
    (chunks_exact_size l.pair-iterator ≡ 2)
    × (length (chunks_exact_rest l.pair-iterator) % 2 ≡ 0)
    × (good_pairs (chunks_exact_rest l.pair-iterator) l.end l.size ≡ good_pairs l.pairs 0 l.size)
