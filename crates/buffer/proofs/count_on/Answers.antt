use Rattle.buffer.proofs.Passes.{clamp-large, clamp-small}
use mathlib.Core.Path.{sym}
use native.Mathlib.Omega.{arith}
use Rattle.buffer.proofs.count_on.Goals as goal

pub returns-then-pos-ge-LIMIT : goal.returns-then-pos-ge-LIMIT
returns-then-pos-ge-LIMIT c = sym (clamp-large _ (omega (arith, c.if-pos-ge-LIMIT.true)))

pub returns-then-pos-count : goal.returns-then-pos-count
returns-then-pos-count c = sym (clamp-large _ (omega (arith, c.if-pos-count.true, c.if-pos-ge-LIMIT.false)))

pub returns : goal.returns
returns c = sym (clamp-small _ (omega (arith, c.if-pos-count.false, c.if-pos-ge-LIMIT.false)))
