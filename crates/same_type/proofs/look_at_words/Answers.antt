use Rattle.same_type.proofs.Looks.{looks-step}
use Rattle.same_type.specs.Looks.{looks}
use mathlib.Core.Bool.{true}
use Rattle.same_type.proofs.Words.{compares-none, compares-all, compares-on, compares-stop}
use mathlib.Core.Path.{◌∙◌, sym}
use native.Mathlib.Omega.{arith}
use Rattle.same_type.proofs.look_at_words.Goals as goal

pub loop-k-init : goal.loop-k-init
loop-k-init c = let a = c.args in compares-all looks a.a.now a.b.now a.start a.from a.count true c.requires.0 c.requires.1

pub returns-then-never_agree : goal.returns-then-never_agree
returns-then-never_agree c = compares-stop c.loop-k.invariant looks-step (omega arith) (sym c.never_agree.ensures ∙ c.if-never_agree.true)

pub loop-k-preserved : goal.loop-k-preserved
loop-k-preserved c = compares-on c.loop-k.invariant looks-step (omega arith) (sym c.never_agree.ensures ∙ c.if-never_agree.false) c.still_equal-equal.ensures

pub returns : goal.returns
returns c = c.look_of.ensures ∙ compares-none c.loop-k.invariant (omega arith)
