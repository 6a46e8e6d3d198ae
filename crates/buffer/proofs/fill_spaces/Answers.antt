use Prim.Native.Nat.{◌+◌, ◌-◌}
use mathlib.Core.Path.{◌≡◌, ap, ◌∙◌}
use lib.ListN.{length-take, length-drop, replicate}
use native.Mathlib.Omega.{arith}
use borrow.Author.Rules.{rules}
use Rattle.buffer.specs.Laid.{spaces}
use Rattle.buffer.proofs.Laws.{overwritten}
use Rattle.buffer.proofs.Passes.{length-spaces, spaces-are}
use Rattle.buffer.proofs.fill_spaces.Goals as goal

pub returns : goal.returns
returns c =
    let a = c.args in
    let n = length-spaces a.count in
    let f : c.fill.new.self ≡ replicate a.count 32 =
    c.fill.ensures.after (λ y e. search rules) ∙ ap (λ m. replicate m 32) (simp (length-take, length-drop) (omega arith)) in
    record {
      bytes = overwritten a.out.now (spaces a.count) a.pos (a.pos + a.count - a.pos) (f ∙ spaces-are a.count) (omega (arith, n)) (omega (arith, n, c.requires));
      next = omega (arith, n);
    }
