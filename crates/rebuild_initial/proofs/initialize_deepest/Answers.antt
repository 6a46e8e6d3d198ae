use Rattle.rebuild_initial.proofs.Filling.{deepest-whole, not-whole, whole-filled}
use Rattle.encoding.proofs.Reading.{handed-on}
use Rattle.rebuild_initial.proofs.initialize_deepest.Goals as goal

pub initialize-requires : goal.initialize-requires
initialize-requires c =
    let whole = deepest-whole c.args.words.now c.args.pairs.now c.args.text.now c.accept_within.ensures c.in_ok-accept_within.was in
    let s = c.requires in (s.0, s.1, whole)

pub returns : goal.returns
returns c =
    let whole = deepest-whole c.args.words.now c.args.pairs.now c.args.text.now c.accept_within.ensures c.in_ok-accept_within.was in
    let a = c.args in whole-filled a.words.now a.pairs.now a.text.now whole c.initialize.ensures

pub returns-in_err-accept_within : goal.returns-in_err-accept_within
returns-in_err-accept_within c =
    let a = c.args in rw (handed-on c.from_residual.ensures.1) (not-whole a.words.now a.pairs.now a.text.now c.accept_within.ensures c.in_err-accept_within.was)
