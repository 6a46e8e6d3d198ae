use Prim.Native.Nat.{ℕ, ◌+◌, ◌-◌}
use mathlib.Core.Path.{ap, ◌∙◌}
use mathlib.Core.List.{List}
use lib.ListN.{drop, take}
use lib.Seq.{sets}
use Rattle.buffer.proofs.Laws.{ends-meet}
use borrow.Author.Rules.{rules}
use Rattle.buffer.proofs.copy_ends.Goals as goal

pub returns : goal.returns
returns c =
    let a = c.args in
    let last = take a.half (drop (a.start + (a.count - a.half)) a.bytes.now) in
    c.copy_chunk-2.ensures
    ∙ ap (λ (l : List ℕ). sets l (a.pos + (a.count - a.half)) last) c.copy_chunk.ensures
    ∙ ends-meet a.bytes.now a.out.now a.start a.half a.count a.pos (search rules) (search rules) (search rules)
