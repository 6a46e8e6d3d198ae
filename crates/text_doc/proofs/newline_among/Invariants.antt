use Prim.Native.Nat.{◌+◌}
use mathlib.Core.Path.{◌≡◌}
use mathlib.Core.Bool.{false}
use Rattle.text_doc.specs.Steps.{Passed}
use Rattle.text_doc.proofs.newline_among.Given as goal

abbrev pub invariant-loop-byte : goal.invariant-loop-byte
invariant-loop-byte l = l.found ≡ false → Passed l.doc l.at (l.at + l.byte-index)
