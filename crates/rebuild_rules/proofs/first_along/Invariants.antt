use Rattle.std.specs.Prelude.{Option, ℕ}
use Rattle.rebuild_rules.proofs.Links.{togo}
use Rattle.rebuild_rules.specs.Table.{AlongLinks, FoundAlong}
use Rattle.rebuild_rules.proofs.first_along.Given as goal

-- what is found from the link that it has come to is what is found from the first
abbrev pub invariant-loop-next : goal.invariant-loop-next
invariant-loop-next g l = ((s : ℕ) × AlongLinks l.rules l.table l.k s l.next) × ((r : Option ℕ) → FoundAlong (goal.F-post g l.passes) l.table l.next r → FoundAlong (goal.F-post g l.passes) l.table l.link r)

abbrev pub decreases-loop-next : goal.decreases-loop-next
decreases-loop-next g l = togo l.k l.next
