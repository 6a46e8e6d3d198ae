use native.Mathlib.Omega.{arith}
use Rattle.encoding.proofs.Reading.{handed-on}
use Rattle.rebuild_rules.proofs.Lists.{filling-ends, filling-more, filling-starts, filling-stops, rule_found, rule-inside, rule-stop}
use Rattle.rebuild_rules.proofs.scan_list.Goals as goal

pub loop-i-init : goal.loop-i-init
loop-i-init c =
    let a = c.args in filling-starts a.rules.now a.pairs.now a.n a.at a.table.now c.requires.4 c.requires.3

pub enter_rule-requires : goal.enter_rule-requires
enter_rule-requires c =
    let s = c in let a = s.args in let l = c.loop-i in
    let r = rule-inside a.rules.now a.pairs.now l.place l.invariant.inside (rule_found c.scan_rule.ensures c.in_ok-middle.was) in
    (omega (arith, c.loop-i-test.true, s.requires.2), omega (arith, l.invariant.inside, s.requires.1), omega (arith, r.0, s.requires.1), omega (arith, r.1, s.requires.1))

pub returns-in_err-middle : goal.returns-in_err-middle
returns-in_err-middle c =
    let a = c.args in let l = c.loop-i in
    rw (handed-on c.from_residual.ensures.1) (filling-stops a.rules.now a.pairs.now a.n a.at c.loop-i-test.true l.invariant (rule-stop c.scan_rule.ensures c.in_err-middle.was))

pub loop-i-preserved : goal.loop-i-preserved
loop-i-preserved c =
    let a = c.args in let l = c.loop-i in
    rw c.enter_rule.ensures (filling-more a.rules.now a.pairs.now a.n a.at c.loop-i-test.true c.requires.2 l.invariant (rule_found c.scan_rule.ensures c.in_ok-middle.was))

pub returns : goal.returns
returns c =
    let a = c.args in let l = c.loop-i in
    filling-ends a.rules.now a.pairs.now a.n a.at c.loop-i-test.false l.invariant
