use Prim.Native.Nat.{◌-◌}
use lib.ListN.{length}
use Rattle.accepted_types.proofs.Skipping.{Skipping}
use Rattle.accepted_types.proofs.skip_type.Given as goal

abbrev pub invariant-loop-due : goal.invariant-loop-due
invariant-loop-due l = Skipping l.words l.pairs l.text l.at l.due l.place

abbrev pub decreases-loop-due : goal.decreases-loop-due
decreases-loop-due l = length l.words - l.place
