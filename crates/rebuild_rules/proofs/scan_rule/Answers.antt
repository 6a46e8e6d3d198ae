use Rattle.rebuild_rules.proofs.Lists.{from-stops, accepted-no-tree, accepted-tree, rule-read, rule-stops, to-stops}
use Rattle.encoding.proofs.Reading.{handed-on}
use Rattle.tree_words.specs.Numbered.{tree_at}
use Rattle.rebuild_rules.proofs.scan_rule.Goals as goal

pub returns : goal.returns
returns c =
    let a = c.args in
    rule-read a.rules.now a.pairs.now a.at (accepted-tree a.rules.now a.pairs.now a.text.now a.at c.scan_type.ensures c.in_ok-middle.was) (accepted-tree a.rules.now a.pairs.now a.text.now c.in_ok-middle.middle c.scan_type-2.ensures c.in_ok-end.was)

pub returns-in_err-end : goal.returns-in_err-end
returns-in_err-end c =
    let a = c.args in
    let f = accepted-tree a.rules.now a.pairs.now a.text.now a.at c.scan_type.ensures c.in_ok-middle.was in
    rw (handed-on c.from_residual-in_err-end.ensures.1) (rule-stops (to-stops (tree_at a.rules.now a.pairs.now) a.at f.1 (accepted-no-tree a.rules.now a.pairs.now a.text.now c.in_ok-middle.middle c.scan_type-2.ensures c.in_err-end.was)))

pub returns-in_err-middle : goal.returns-in_err-middle
returns-in_err-middle c =
    let a = c.args in
    rw (handed-on c.from_residual.ensures.1) (rule-stops (from-stops (tree_at a.rules.now a.pairs.now) a.at (accepted-no-tree a.rules.now a.pairs.now a.text.now a.at c.scan_type.ensures c.in_err-middle.was)))
