use Prim.Native.Nat.{◌*◌, ◌+◌, ◌-◌, ◌≤◌}
use Rattle.encoding.specs.Types.{read_types}
use Rattle.rebuild_rules.proofs.Depths.{Deepening}
use Rattle.tree_words.specs.Numbered.{tree_at}
use lib.ListN.{length}
use Rattle.rebuild_rules.proofs.+deepest_depth_below.Given as goal

abbrev pub decreases-deepest : goal.decreases-deepest
decreases-deepest l = 2 * (length l.words.now - l.at)

abbrev pub decreases-depth_below : goal.decreases-depth_below
decreases-depth_below l = 2 * (length l.words.now - l.at) + 1

abbrev pub invariant-deepest-loop : goal.invariant-deepest-loop
invariant-deepest-loop l = (l.at ≤ l.place) × Deepening l.words l.pairs (read_types (tree_at l.words l.pairs) l.n l.at) l.place l.depth (l.n - l.counter)
