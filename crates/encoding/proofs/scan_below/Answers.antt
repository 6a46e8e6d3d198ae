use Rattle.encoding.proofs.Reading.{below_in, below_out, below_end}
use native.Mathlib.Omega.{arith}
use Rattle.encoding.proofs.scan_below.Goals as goal

pub returns-then-words-at : goal.returns-then-words-at
returns-then-words-at c = rw (below_end _ _ _ c.if-words-at.true)

pub overflow_cast-w : goal.overflow_cast-w
overflow_cast-w c = omega (arith, c.shared_slice_known-1.given c.args.at)

pub returns-then-bound-w : goal.returns-then-bound-w
returns-then-bound-w c = rw (below_out _ _ _ c.if-words-at.false c.if-bound-w.true)

pub returns : goal.returns
returns c = rw (below_in _ _ _ c.if-words-at.false c.if-bound-w.false)
