use Rattle.encoding.specs.Reading.{Reading}
use Rattle.rebuild_type.proofs.Calls.{attempt-denied, attempt-filled, attempt-fits, attempt-full}
use Rattle.rebuild_type.specs.Calls.{RebuiltWords}
use Rattle.rebuild_type.specs.Laid.{mapping}
use Rattle.rebuild_calls.proofs.Wholes.{limit_is}
use Rattle.rebuild_calls.specs.Wholes.{laid_by}
use mathlib.Core.Path.{refl}
use native.Mathlib.Omega.{arith}
use Rattle.rebuild_calls.proofs.attempt.Goals as goal

pub finish-requires : goal.finish-requires
finish-requires c =
    let s = c in
    let tree : Reading RebuiltWords = laid_by s.args.what s.args.words.now s.args.pairs.now (mapping s.args.rules.now s.args.pairs.now s.args.text.now) in
    let m = c.room_of-limit.ensures in
    attempt-fits tree s.args.out.now c.rebuild_whole.ensures (omega (arith, m)) (omega (arith, m, s.requires.3)) c.in-Some.is

pub returns-in-Ok : goal.returns-in-Ok
returns-in-Ok c =
    let s = c in
    let tree : Reading RebuiltWords = laid_by s.args.what s.args.words.now s.args.pairs.now (mapping s.args.rules.now s.args.pairs.now s.args.text.now) in
    let m = c.room_of-limit.ensures in
    limit_is m (attempt-filled tree s.args.out.now c.rebuild_whole.ensures (omega (arith, m, s.requires.3)) c.in-Some.is c.finish.ensures c.in-Ok.is)

pub returns-in-Err : goal.returns-in-Err
returns-in-Err c =
    let s = c in
    let tree : Reading RebuiltWords = laid_by s.args.what s.args.words.now s.args.pairs.now (mapping s.args.rules.now s.args.pairs.now s.args.text.now) in
    let m = c.room_of-limit.ensures in
    limit_is m (attempt-denied tree s.args.out.now c.rebuild_whole.ensures (omega (arith, m, s.requires.3)) c.in-Some.is c.finish.ensures c.in-Err.is)

pub returns-in-None : goal.returns-in-None
returns-in-None c =
    let s = c in
    let tree : Reading RebuiltWords = laid_by s.args.what s.args.words.now s.args.pairs.now (mapping s.args.rules.now s.args.pairs.now s.args.text.now) in
    limit_is c.room_of-limit.ensures
    (attempt-full tree s.args.out.now c.rebuild_whole.ensures s.requires.2.reads c.in-None.is refl)
