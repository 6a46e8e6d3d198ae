use Rattle.rebuild_type.proofs.Calls.{down-failed, down-passed}
use Rattle.rebuild_calls.specs.Wholes.{whole_rebuilt}
use Rattle.rebuild_rules.proofs.Lists.{all-passed}
use mathlib.Core.Path.{◌∙◌, sym}
use Rattle.encoding.proofs.Reading.{handed-on}
use Rattle.rebuild_calls.proofs.rebuild_by.Goals as goal

pub read_and_fill-requires : goal.read_and_fill-requires
read_and_fill-requires c =
    let a = c.args in
    let p = all-passed a.words.now a.rules.now a.pairs.now a.text.now (sym c.check_all.ensures ∙ c.in_ok-check_all.was) in
    (p.0, p.1, p.2)

pub returns : goal.returns
returns c = down-passed c.args.out.now (whole_rebuilt c.args.what c.args.words.now c.args.pairs.now c.args.text.now c.args.rules.now) c.check_all.ensures c.in_ok-check_all.was c.read_and_fill.ensures

pub returns-in_err-check_all : goal.returns-in_err-check_all
returns-in_err-check_all c = rw (handed-on c.from_residual.ensures.1) (down-failed c.args.out.now (whole_rebuilt c.args.what c.args.words.now c.args.pairs.now c.args.text.now c.args.rules.now) c.check_all.ensures c.in_err-check_all.was)
