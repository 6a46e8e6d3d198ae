use Prim.Native.Nat.{◌*◌, ◌+◌, ◌-◌, ◌≤◌}
use Rattle.encoding.specs.Types.{read_types}
use Rattle.rebuild_type.proofs.Types.{Rebuilding}
use Rattle.rebuild_type.specs.Laid.{mapping}
use Rattle.tree_words.specs.Numbered.{tree_at}
use lib.ListN.{length}
use Rattle.rebuild_type.proofs.+rebuild_below_rebuild_next_rebuild_parts_rebuild_types.Given as goal

abbrev pub decreases-rebuild_below : goal.decreases-rebuild_below
decreases-rebuild_below l = 4 * (length l.words.now - l.at) + 3

abbrev pub decreases-rebuild_next : goal.decreases-rebuild_next
decreases-rebuild_next l = 4 * (length l.words.now - l.at) + 1

abbrev pub decreases-rebuild_parts : goal.decreases-rebuild_parts
decreases-rebuild_parts l = 4 * (length l.words.now - l.at)

abbrev pub decreases-rebuild_types : goal.decreases-rebuild_types
decreases-rebuild_types l = 4 * (length l.words.now - l.at) + 2

abbrev pub invariant-rebuild_types-loop : goal.invariant-rebuild_types-loop
invariant-rebuild_types-loop l = (l.at ≤ l.place) × Rebuilding l.words l.pairs (mapping l.rules l.pairs l.text) (read_types (tree_at l.words l.pairs) l.n l.at) l.limit l.initial.out l.pos l.out l.place l.p l.deepest (l.n - l.counter)
