use Prim.Native.Nat.{◌-◌}
use Rattle.text_doc.proofs.Laying.{Reached}
use Rattle.rast.specs.Indent.{indent}
use lib.ListN.{length}
use mathlib.Core.Path.{◌≡◌}
use Rattle.text_doc.proofs.lay_converted.Given as goal

abbrev pub invariant-loop-place : goal.invariant-loop-place
invariant-loop-place l = (length l.out ≡ length l.initial.out) × Reached l.write (indent l.level) l.doc l.initial.out l.pos l.place l.out l.next

abbrev pub decreases-loop-place : goal.decreases-loop-place
decreases-loop-place l = length l.doc - l.place.at
