use Prim.Native.Nat.{◌-◌}
use mathlib.Core.Bool.{false}
use mathlib.Core.List.{[]}
use Rattle.text_pass.specs.Passes.{Along}
use Rattle.text_attributes.specs.Texts.{some_attributes}
use Rattle.text_attributes.proofs.count_attributes.Given as goal

abbrev pub invariant-loop : goal.invariant-loop
invariant-loop l = Along false [] l.pos (some_attributes l.words l.pairs l.text l.level l.n l.at) [] l.p (some_attributes l.words l.pairs l.text l.level (l.n - l.counter) l.place)
