use Rattle.declaration_walk.proofs.Scans.{scanned-more, scanned-refused, scanned-all}
use Rattle.encoding.proofs.Reading.{handed-on}
use native.Mathlib.Omega.{arith}
use Rattle.declaration_walk.proofs.scan_each.Goals as goal

pub loop-preserved : goal.loop-preserved
loop-preserved g c = λ r t. c.loop.invariant r (scanned-more (omega arith) (c.in_ok-pos.ensures) t)

pub returns-in_err-pos : goal.returns-in_err-pos
returns-in_err-pos g c = rw (handed-on c.from_residual.ensures.1) (c.loop.invariant _ (scanned-refused (omega arith) (c.in_err-pos.ensures)))

pub returns : goal.returns
returns g c = c.loop.invariant _ (scanned-all c.loop.pos (omega arith))
