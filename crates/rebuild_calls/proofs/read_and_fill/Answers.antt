use Rattle.rebuild_type.proofs.Calls.{ruled-of, rules-given, rules-refused}
use Rattle.rebuild_type.specs.Laid.{mapping}
use Rattle.rebuild_rules.proofs.Tables.{zeros-unlinked}
use Rattle.rebuild_calls.proofs.Unaltered.{copied}
use Rattle.rebuild_calls.proofs.Wholes.{laid-ends, whole-answered, whole-over, whole-refused, whole-stops}
use Rattle.encoding.proofs.Reading.{handed-on}
use Rattle.rebuild_calls.proofs.read_and_fill.Goals as goal

pub returns-then-end-words : goal.returns-then-end-words
returns-then-end-words c = whole-over c.args.what c.args.words.now c.args.pairs.now c.args.text.now c.accept.ensures c.args.rules.now c.args.out.now c.in_ok-end.was c.if-end-words.true

pub returns-then-holds_no_rule : goal.returns-then-holds_no_rule
returns-then-holds_no_rule c = copied c.args.words.now c.args.pairs.now c.args.text.now c.args.what c.accept.ensures c.args.out.now c.in_ok-end.was c.if-end-words.false (c.holds_no_rule.ensures c.if-holds_no_rule.true) c.copy_unaltered.ensures

pub read_rules-requires : goal.read_rules-requires
read_rules-requires c = let pre = c.requires in (pre.0, pre.2, zeros-unlinked)

pub fill-requires : goal.fill-requires
fill-requires c =
    let a = c.args in let pre = c.requires in
    (pre.0, ruled-of c.read_rules.ensures c.in_ok-k.was, pre.1, laid-ends a.what a.words.now a.pairs.now a.text.now c.accept.ensures (mapping a.rules.now a.pairs.now a.text.now) c.in_ok-end.was c.if-end-words.false)

pub returns : goal.returns
returns c = whole-answered c.args.what c.args.words.now c.args.pairs.now c.args.text.now c.accept.ensures c.args.rules.now c.args.out.now c.in_ok-end.was c.if-end-words.false (rules-given c.read_rules.ensures c.in_ok-k.was) c.fill.ensures

pub returns-in_err-k : goal.returns-in_err-k
returns-in_err-k c = rw (handed-on c.from_residual-in_err-k.ensures.1) (whole-refused c.args.what c.args.words.now c.args.pairs.now c.args.text.now c.accept.ensures c.args.rules.now c.args.out.now c.in_ok-end.was c.if-end-words.false (rules-refused c.read_rules.ensures c.in_err-k.was))

pub returns-in_err-end : goal.returns-in_err-end
returns-in_err-end c = rw (handed-on c.from_residual.ensures.1) (whole-stops c.args.what c.args.words.now c.args.pairs.now c.args.text.now c.accept.ensures c.args.rules.now c.args.out.now c.in_err-end.was)
