use Prim.Native.Nat.{◌-◌}
use borrow.Author.Tests.{eq-eqb, ne_eqb}
use Rattle.text_measure.specs.Lengths.{array_length}
use Rattle.text_measure.proofs.Lengths.{name-short}
use native.Mathlib.Omega.{arith}
use Rattle.text_measure.proofs.array_length.Goals as goal

pub returns-then-size-eq0 : goal.returns-then-size-eq0
unfolding array_length
returns-then-size-eq0 c = (rw (eq-eqb _ _ c.if-size-eq0.true), omega arith)

pub overflow_add-result : goal.overflow_add-result
overflow_add-result c = omega (arith, c.name_length.ensures, name-short c.args.pairs.now (λ i. omega (arith, c.shared_slice_known-1.given i)) (c.args.size - 1))

pub returns : goal.returns
unfolding array_length
returns c =
    let a = c.args in
    let e = c.name_length.ensures in
    (rw (ne_eqb _ _ c.if-size-eq0.false) (omega arith), omega (arith, name-short a.pairs.now (λ i. omega (arith, c.shared_slice_known-1.given i)) (a.size - 1)))
