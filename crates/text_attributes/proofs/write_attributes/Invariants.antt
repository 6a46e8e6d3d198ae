use Prim.Native.Nat.{◌-◌}
use mathlib.Core.Path.{◌≡◌}
use mathlib.Core.Bool.{true}
use lib.ListN.{length}
use Rattle.text_pass.specs.Passes.{Along}
use Rattle.text_attributes.specs.Texts.{some_attributes}
use Rattle.text_attributes.proofs.write_attributes.Given as goal

abbrev pub invariant-loop : goal.invariant-loop
invariant-loop l = (length l.out ≡ length l.initial.out)
    × Along true l.initial.out l.pos (some_attributes l.words l.pairs l.text l.level l.n l.at) l.out l.spot.pos (some_attributes l.words l.pairs l.text l.level (l.n - l.counter) l.spot.next)
