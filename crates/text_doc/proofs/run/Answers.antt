use Rattle.text_doc.proofs.Runs.{begins-some, run_more, run_none}
use lib.ListN.{drop}
use mathlib.Core.Path.{◌∙◌, sym}
use native.Mathlib.Omega.{arith}
use borrow.Author.Rules.{rules}
use Rattle.text_doc.proofs.run.Goals as goal

pub loop-i-init : goal.loop-i-init
loop-i-init c = (search rules, search rules, omega arith)

pub overflow_add-i : goal.overflow_add-i
overflow_add-i c =
    let a = c.args in
    let l = c.loop-i in
    omega (arith, begins-some a.byte a.doc.now l.i (sym c.stands.ensures ∙ c.if-not-stands.false))

pub loop-i-smaller : goal.loop-i-smaller
loop-i-smaller c =
    let a = c.args in
    let l = c.loop-i in
    omega (arith, begins-some a.byte a.doc.now l.i (sym c.stands.ensures ∙ c.if-not-stands.false))

pub loop-i-preserved : goal.loop-i-preserved
loop-i-preserved c =
    let a = c.args in
    let l = c.loop-i in
    let b = sym c.stands.ensures ∙ c.if-not-stands.false in
    let h = begins-some a.byte a.doc.now l.i b in
    let m = run_more a.byte a.doc.now l.i b h in
    (search rules, search rules, omega (arith, l.invariant.2))

pub returns : goal.returns
returns c =
    let a = c.args in
    let l = c.loop-i in
    let n = run_none a.byte (drop l.i a.doc.now) (sym c.stands.ensures ∙ c.if-not-stands.true) in
    (omega (arith, l.invariant.2), search rules)
