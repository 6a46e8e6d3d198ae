use native.Mathlib.Omega.{arith}
use borrow.Author.Tests.{le-leb, lt-leb}
use Rattle.rast.specs.Bytes.{◌and◌}
use Rattle.rast.specs.Sound.{within}
use Rattle.sound_names.proofs.lies.Goals as goal

pub returns-then-b-low : goal.returns-then-b-low
unfolding within ◌and◌
returns-then-b-low c = (rw (lt-leb _ _ c.if-b-low.true), omega arith)

pub returns-then-high-b : goal.returns-then-high-b
unfolding within ◌and◌
returns-then-high-b c = (rw (le-leb _ _ c.if-b-low.false, lt-leb _ _ c.if-high-b.true), omega arith)

pub returns : goal.returns
unfolding within ◌and◌
returns c = (rw (le-leb _ _ c.if-b-low.false, le-leb _ _ c.if-high-b.false), omega arith)
