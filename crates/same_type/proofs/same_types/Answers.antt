use Rattle.same_type.proofs.Steps.{runs-step}
use Rattle.same_type.proofs.Words.{compares-none, compares-all, compares-on, compares-stop}
use Rattle.same_type.specs.Runs.{same_runs}
use Rattle.same_type.specs.declared.Due.TheVariants.{Kind}
use Rattle.encoding.specs.Tables.{name_bytes}
use mathlib.Core.Bool.{not}
use mathlib.Core.Path.{◌∙◌, ap, sym}
use native.Mathlib.Omega.{arith}
use Rattle.same_type.proofs.same_types.Goals as goal

pub loop-k-init : goal.loop-k-init
loop-k-init c =
    let a = c.args in
    compares-all (same_runs (name_bytes a.pairs.now a.text.now)) a.a.now a.b.now a.start a.from a.count Kind c.requires.1 c.requires.2

pub returns-then-not-words_agree : goal.returns-then-not-words_agree
returns-then-not-words_agree c =
    let a = c.args in
    compares-stop c.loop-k.invariant (runs-step (name_bytes a.pairs.now a.text.now)) (omega arith) (ap not (sym c.words_agree.ensures ∙ c.if-not-words_agree.true))

pub loop-k-preserved : goal.loop-k-preserved
loop-k-preserved c =
    let a = c.args in
    compares-on c.loop-k.invariant (runs-step (name_bytes a.pairs.now a.text.now)) (omega arith) (ap not (sym c.words_agree.ensures ∙ c.if-not-words_agree.false)) c.due_after-due.ensures

pub returns : goal.returns
unfolding same_runs
returns c = compares-none c.loop-k.invariant (omega arith)
