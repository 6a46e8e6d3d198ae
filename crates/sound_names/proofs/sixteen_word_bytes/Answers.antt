use native.Mathlib.Omega.{arith}
use mathlib.Core.Path.{◌≡◌}
use borrow.Author.Tests.{eqb-true}
use Rattle.sound_names.proofs.Names.{words_more}
use Rattle.sound_names.proofs.sixteen_word_bytes.Goals as goal

pub loop-j-init : goal.loop-j-init
loop-j-init c = (λ e i h k. absurd (let z : ⊥ = omega arith in z), omega arith)

pub bounds-text-at : goal.bounds-text-at
bounds-text-at c = omega (arith, c.requires)

pub overflow_add-sum : goal.overflow_add-sum
overflow_add-sum c = omega (arith, c.loop-j.invariant.1, c.strange-sum.ensures.1)

pub loop-j-preserved : goal.loop-j-preserved
loop-j-preserved c =
    let a = c.args in
    (λ e. words_more a.text.now a.at c.loop-j.j (c.loop-j.invariant.0 (omega arith)) c.strange-sum.ensures.0 (omega arith), omega (arith, c.loop-j.invariant.1, c.strange-sum.ensures.1))

pub returns : goal.returns
returns c =
    let l = c.loop-j in
    let last : l.j ≡ 16 = omega arith in
    λ e. rw last at (l.invariant.0 (eqb-true _ 0 e))
