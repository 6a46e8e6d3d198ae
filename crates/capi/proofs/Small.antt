-- A part of the type that an encoding holds is small.
use Rattle.encoding.specs.declared.Refusal.{Refusal}
use Rattle.std.specs.Prelude.{Option, Result}
use Prim.Native.Nat.{ℕ}
use mathlib.Core.Path.{◌≡◌}
use mathlib.Core.List.{List}
use native.Mathlib.Omega.{arith}
use Rattle.rast.specs.Bytes.{Bytes}
use Rattle.tree_words.specs.Places.{Place}
use Rattle.known_paths.proofs.Children.{Keeps}
use Rattle.parts.specs.declared.Span.{Span}
use Rattle.parts.specs.Answers.{part_of}
use Rattle.parts.proofs.Spans.{part-few, part-within}
use Rattle.answer_numbers.specs.Limits.{Small}

pub part_small : {ws pairs : List ℕ} {text : Bytes} {f : Place Bytes → Option (Place Bytes)} → Keeps ws pairs text f → {r : Result Span Refusal} → r ≡ part_of f ws pairs text → Small r
part_small {ws} {pairs} {text} {f} k e = record { small = λ s d. omega (arith, part-few ws pairs text f k e d, part-within ws pairs text f k e d) }
