use Rattle.buffer.proofs.Laws.{part_length}
use Rattle.buffer.proofs.Passes.{laid-size, laid-wrote}
use lib.ListN.{drop, length, take}
use mathlib.Core.Path.{◌≡◌, sym}
use native.Mathlib.Omega.{arith}
use Rattle.buffer.proofs.lay_part.Goals as goal

pub put_part-requires : goal.put_part-requires
put_part-requires c =
    let size : length (take c.args.count (drop c.args.start c.args.bytes.now)) ≡ c.args.count = part_length c.args.bytes.now c.args.start c.args.count c.requires.0 in
    let s = c in
    (s.requires.0, omega (arith, s.requires.1.room c.if-write.true, size))

pub returns-then-write : goal.returns-then-write
returns-then-write c = laid-wrote c.if-write.true c.put_part.ensures

pub returns : goal.returns
returns c =
    let size : length (take c.args.count (drop c.args.start c.args.bytes.now)) ≡ c.args.count = part_length c.args.bytes.now c.args.start c.args.count c.requires.0 in
    laid-size c.if-write.false c.count_few.ensures (sym size)
