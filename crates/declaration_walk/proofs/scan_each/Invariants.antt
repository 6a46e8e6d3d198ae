use Rattle.std.specs.Prelude.{Result, ℕ, ◌-◌}
use Rattle.encoding.specs.declared.Refusal.{Refusal}
use Rattle.declaration_walk.specs.Walks.{EachScanned}
use Rattle.declaration_walk.proofs.scan_each.Given as goal

-- those that are left, behind those that were scanned
abbrev pub invariant-loop : goal.invariant-loop
invariant-loop g l = (r : Result ℕ Refusal) → EachScanned (goal.F-post g l.one) (l.count - l.counter) l.pos r → EachScanned (goal.F-post g l.one) l.count l.fn.at r
