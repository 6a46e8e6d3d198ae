use Rattle.buffer.proofs.Laws.{wrote_as, wrote_nothing}
use Rattle.buffer.specs.Laid.{spaces}
use mathlib.Core.Path.{ap, sym}
use Rattle.buffer.proofs.put_spaces.Goals as goal

pub returns-then-count-eq0 : goal.returns-then-count-eq0
unfolding spaces
returns-then-count-eq0 c = wrote_as (ap spaces (sym c.if-count-eq0.true)) (wrote_nothing _ _)

pub returns-then-count-eq4 : goal.returns-then-count-eq4
unfolding spaces
returns-then-count-eq4 c = wrote_as (ap spaces (sym c.if-count-eq4.true)) c.put.ensures
