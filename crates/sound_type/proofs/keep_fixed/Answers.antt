use borrow.Author.Rules.{rules}
use native.Mathlib.Omega.{arith}
use Rattle.sound_type.proofs.Names.{known-fixed}
use Rattle.sound_type.proofs.keep_fixed.Goals as goal

pub loop-i-init : goal.loop-i-init
loop-i-init c = c.requires

pub loop-i-preserved : goal.loop-i-preserved
loop-i-preserved c =
    let a = c.args in
    known-fixed a.pairs.now a.text.now c.loop-i.invariant c.loop-i.i (omega arith) (search rules)

pub returns : goal.returns
returns c = c.loop-i.invariant
