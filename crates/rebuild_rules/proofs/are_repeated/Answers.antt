use Prim.Native.Nat.{◌-◌}
use Rattle.encoding.specs.Tables.{name_bytes}
use Rattle.rebuild_rules.proofs.Steps.{repeated-here, repeated-later, repeated-never}
use mathlib.Core.Path.{◌∙◌, ◌≡◌, refl, sym}
use native.Mathlib.Omega.{arith}
use Rattle.rebuild_rules.proofs.are_repeated.Goals as goal

pub loop-i-init : goal.loop-i-init
loop-i-init c = let z : c.args.k - 0 ≡ c.args.k = omega arith in rw z refl

pub is_among-requires : goal.is_among-requires
is_among-requires c = (c.requires.0, c.requires.1, c.requires.2, c.loop-i-test.true)

pub returns-then-is_among : goal.returns-then-is_among
returns-then-is_among c =
    let a = c.args in let l = c.loop-i in
    sym (repeated-here (name_bytes a.pairs.now a.text.now) a.rules.now a.table.now l.i a.k c.loop-i-test.true (sym c.is_among.ensures ∙ c.if-is_among.true)) ∙ l.invariant

pub loop-i-preserved : goal.loop-i-preserved
loop-i-preserved c =
    let a = c.args in let l = c.loop-i in
    sym (repeated-later (name_bytes a.pairs.now a.text.now) a.rules.now a.table.now l.i a.k c.loop-i-test.true (sym c.is_among.ensures ∙ c.if-is_among.false)) ∙ l.invariant

pub returns : goal.returns
returns c =
    let a = c.args in let l = c.loop-i in
    sym (repeated-never (name_bytes a.pairs.now a.text.now) a.rules.now a.table.now l.i a.k c.loop-i-test.false) ∙ l.invariant
