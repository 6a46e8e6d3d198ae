use Rattle.file.proofs.Printing.{one-digit, two_digits}
use lib.ListN.{length-set}
use native.Mathlib.Omega.{arith}
use Rattle.file.proofs.put_decimal.Goals as goal

pub returns-then-n-lt10 : goal.returns-then-n-lt10
returns-then-n-lt10 c = one-digit c.args.out.now c.args.n c.args.pos c.if-n-lt10.true

pub bounds-out-pos-3 : goal.bounds-out-pos-3
bounds-out-pos-3 c = simp length-set (omega arith)

pub returns : goal.returns
returns c = two_digits c.args.out.now c.args.n c.args.pos c.if-n-lt10.false
