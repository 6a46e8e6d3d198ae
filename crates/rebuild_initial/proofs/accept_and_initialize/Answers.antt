use Rattle.rebuild_initial.proofs.Filling.{lower-whole, whole-filled}
use Rattle.rebuild_initial.proofs.accept_and_initialize.Goals as goal

pub initialize-requires : goal.initialize-requires
initialize-requires c =
    let whole = lower-whole c.args.words.now c.args.pairs.now c.args.text.now c.accept_within.ensures c.in-Ok.is in
    let s = c.requires in (s.0, s.1, whole)

pub returns-in-Ok : goal.returns-in-Ok
returns-in-Ok c =
    let whole = lower-whole c.args.words.now c.args.pairs.now c.args.text.now c.accept_within.ensures c.in-Ok.is in
    let a = c.args in whole-filled a.words.now a.pairs.now a.text.now whole c.initialize.ensures
