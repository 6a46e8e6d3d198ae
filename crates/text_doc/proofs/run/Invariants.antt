use Prim.Native.Nat.{◌+◌, ◌-◌, ◌≤◌}
use Rattle.text_doc.specs.Steps.{run_of}
use lib.ListN.{drop, length}
use mathlib.Core.Path.{◌≡◌}
use Rattle.text_doc.proofs.run.Given as goal

abbrev pub invariant-loop-i : goal.invariant-loop-i
invariant-loop-i l = (l.at ≤ l.i) × (l.i ≤ length l.doc) × (run_of l.byte (drop l.at l.doc) ≡ l.i - l.at + run_of l.byte (drop l.i l.doc))

abbrev pub decreases-loop-i : goal.decreases-loop-i
decreases-loop-i l = length l.doc - l.i
