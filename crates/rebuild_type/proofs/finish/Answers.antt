use Rattle.buffer.proofs.Laws.{part_length}
use Rattle.rebuild_type.proofs.Calls.{down-deep, down-front}
use lib.ListN.{length, take}
use mathlib.Core.Path.{◌≡◌, sym}
use native.Mathlib.Omega.{arith}
use Rattle.rebuild_type.proofs.finish.Goals as goal

pub returns-then-depth-gt-MAX_DEPTH : goal.returns-then-depth-gt-MAX_DEPTH
returns-then-depth-gt-MAX_DEPTH c =
    let a = c.args in
    down-deep a.out.now (record { words = take a.count a.from.now; top = a.count; deep = a.depth }) (omega (arith, c.requires.1, c.requires.2)) c.if-depth-gt-MAX_DEPTH.true c.clear.ensures

pub returns : goal.returns
returns c =
    let a = c.args in
    let n : length (take a.count a.from.now) ≡ a.count = part_length a.from.now 0 a.count (omega (arith, c.requires.0)) in
    down-front a.out.now (record { words = take a.count a.from.now; top = a.count; deep = a.depth }) (omega (arith, c.requires.1, c.requires.2)) c.if-depth-gt-MAX_DEPTH.false (omega (arith, n, c.requires.1)) c.copy_words.ensures (sym n)
