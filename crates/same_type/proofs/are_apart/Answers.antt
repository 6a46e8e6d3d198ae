use native.Mathlib.Omega.{arith}
use mathlib.Core.Path.{◌∙◌, sym}
use borrow.Author.Tests.{not-true}
use Rattle.encoding.proofs.Tables.{impossible}
use Rattle.encoding.specs.Tables.{name_bytes}
use Rattle.same_type.specs.declared.Due.TheVariants.{Kind}
use Rattle.same_type.proofs.Steps.{runs-later, runs-differ}
use Rattle.same_type.proofs.Looks.{may-not, told-apart}
use Rattle.same_type.proofs.are_apart.Goals as goal

pub returns-then-numbers_apart : goal.returns-then-numbers_apart
returns-then-numbers_apart c = λ e.
    let s = c in let a = s.args in let k = c.equal_front-k.result in
    runs-later (name_bytes a.pairs.now a.text.now) a.a.now a.b.now k a.start a.from a.count c.equal_front-k.ensures s.requires.1 s.requires.2
    (λ due. told-apart a.pairs.now a.text.now due _ _ (sym c.numbers_apart.ensures ∙ c.if-numbers_apart.true)) Kind

pub returns-then-k-count : goal.returns-then-k-count
returns-then-k-count c = λ e. impossible (cc)

pub returns-then-k-eq0 : goal.returns-then-k-eq0
returns-then-k-eq0 c = λ e. impossible (cc)

pub returns : goal.returns
returns c = λ e.
    let s = c in let a = s.args in let k = c.equal_front-k.result in let h = c.equal_front-k.ensures in let n = c.if-k-count.false in let z = c.if-k-eq0.false in
    runs-differ (name_bytes a.pairs.now a.text.now) a.a.now a.b.now k a.start a.from a.count (omega (arith, z)) (omega (arith, h, n)) s.requires.1 s.requires.2
    (may-not (name_bytes a.pairs.now a.text.now) _ _ _ (sym c.may_agree.ensures ∙ not-true _ e)) Kind
