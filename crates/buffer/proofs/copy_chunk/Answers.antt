use Prim.Native.Nat.{ℕ}
use mathlib.Core.Path.{ap, ◌∙◌}
use mathlib.Core.List.{List}
use native.Mathlib.Omega.{arith}
use lib.ListN.{length-replicate, replicate, take}
use lib.Seq.{sets}
use Rattle.buffer.proofs.Laws.{read_back}
use borrow.Author.Rules.{rules}
use Rattle.buffer.proofs.copy_chunk.Goals as goal

pub returns : goal.returns
returns c =
    let a = c.args in
    let there = c.copy.ensures in
    let back = read_back a.bytes.now (replicate 16384 0) a.start a.count (search rules) (omega (arith, length-replicate {A = ℕ} 16384 0, c.requires)) in
    c.copy-2.ensures
    ∙ ap (λ (l : List ℕ). sets a.out.now a.pos (take a.count l)) there
    ∙ ap (sets a.out.now a.pos) back
