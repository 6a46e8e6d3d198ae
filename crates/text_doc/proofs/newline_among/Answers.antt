use Prim.Native.Nat.{◌+◌, ◌-◌}
use native.Mathlib.Omega.{arith}
use lib.ListN.{drop, length-take}
use Rattle.text_doc.proofs.Runs.{passed-byte}
use Rattle.text_doc.proofs.newline_among.Goals as goal

pub loop-byte-preserved : goal.loop-byte-preserved
loop-byte-preserved c =
    let l = c.loop-byte in
    passed-byte c.args.doc.now l.found l.invariant c.requires (omega (arith, c.loop-byte-test.true, length-take (c.args.at + c.args.count - c.args.at) (drop c.args.at c.args.doc.now)))
