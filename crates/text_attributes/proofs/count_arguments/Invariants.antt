use Prim.Native.Nat.{◌+◌, ◌-◌, ◌<◌, ◌^◌}
use mathlib.Core.Path.{◌≡◌}
use mathlib.Core.Bool.{false}
use mathlib.Core.List.{[]}
use Rattle.rast.specs.Bytes.{ascii}
use Rattle.text_pass.specs.Passes.{Came}
use Rattle.text_pass.specs.Texts.{name_at}
use Rattle.text_pass.proofs.Passes.{Turn}
use Rattle.text_attributes.specs.Texts.{some_arguments}
use Rattle.text_attributes.proofs.count_arguments.Given as goal

-- the gap before the next argument is counted with it, so it is not counted yet
abbrev pub invariant-loop : goal.invariant-loop
invariant-loop l = (l.gap < 2 ^ 40)
    × (l.counter < l.n → Turn (name_at l.words l.pairs l.text) (ascii ", ") false [] (l.pos + l.before) l.n l.at [] (l.p + l.gap) (l.n - l.counter) l.place)
    × (l.counter ≡ l.n → Came false [] (l.pos + l.before) (some_arguments l.words l.pairs l.text l.n l.at) [] l.place l.p)
