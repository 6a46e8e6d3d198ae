use Prim.Native.Nat.{◌+◌, ◌-◌, ◌<◌}
use Rattle.rebuild_rules.proofs.Links.{Linking, linking-next, linking-starts}
use mathlib.Core.Path.{◌≡◌, subst}
use native.Mathlib.Omega.{arith}
use Rattle.rebuild_rules.proofs.link_rules.Goals as goal

pub loop-i-init : goal.loop-i-init
loop-i-init c =
    let a = c.args in linking-starts a.rules.now a.table.now a.k c.requires.1

pub link_rule-requires : goal.link_rule-requires
link_rule-requires c =
    let a = c.args in let l = c.loop-i in let f = c.requires.0 in
    let h : l.i - 1 < a.k = omega (arith, l.invariant.within, c.loop-i-test.true) in
    (omega (arith, h, f.few), omega (arith, l.invariant.entries.from (l.i - 1) (omega (arith, h, f.few)), f.from (l.i - 1) h, f.to (l.i - 1) h, f.inside (l.i - 1) h))

pub loop-i-preserved : goal.loop-i-preserved
loop-i-preserved c =
    let a = c.args in let l = c.loop-i in let f = c.requires.0 in
    let h : l.i - 1 < a.k = omega (arith, l.invariant.within, c.loop-i-test.true) in
    let z : l.i ≡ l.i - 1 + 1 = omega (arith, c.loop-i-test.true) in
    rw c.link_rule.ensures (linking-next a.rules.now a.table.now l.table (l.i - 1) a.k f.few h f.size (subst (λ j. Linking a.rules.now a.table.now l.table j a.k) z l.invariant))

pub returns : goal.returns
returns c =
    let a = c.args in let l = c.loop-i in
    let z : l.i ≡ 0 = omega (arith, c.loop-i-test.false) in
    (l.invariant.entries, rw z at l.invariant.links)
