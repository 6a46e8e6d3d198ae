use Rattle.encoding.specs.Tables.{name_bytes}
use Rattle.rebuild_rules.proofs.Steps.{none_here, none-later, none_never}
use mathlib.Core.Path.{◌∙◌, refl, sym}
use Rattle.rebuild_rules.proofs.none_stands.Goals as goal

pub loop-at-init : goal.loop-at-init
loop-at-init c = refl

pub some_stands-requires : goal.some_stands-requires
some_stands-requires c = let pre = c.requires in (pre.0, pre.1, pre.2, c.loop-at-test.true)

pub returns-then-some_stands : goal.returns-then-some_stands
returns-then-some_stands c =
    let a = c.args in let l = c.loop-at in
    sym (none_here (name_bytes a.pairs.now a.text.now) a.rules.now a.table.now a.k a.words.now l.at c.loop-at-test.true (sym c.some_stands.ensures ∙ c.if-some_stands.true)) ∙ l.invariant

pub loop-at-preserved : goal.loop-at-preserved
loop-at-preserved c =
    let a = c.args in let l = c.loop-at in
    sym (none-later (name_bytes a.pairs.now a.text.now) a.rules.now a.table.now a.k a.words.now l.at c.loop-at-test.true (sym c.some_stands.ensures ∙ c.if-some_stands.false)) ∙ l.invariant

pub returns : goal.returns
returns c =
    let a = c.args in let l = c.loop-at in
    sym (none_never (name_bytes a.pairs.now a.text.now) a.rules.now a.table.now a.k a.words.now l.at c.loop-at-test.false) ∙ l.invariant
