use Rattle.rebuild_rules.proofs.Lists.{Filling}
use Rattle.rebuild_rules.proofs.scan_list.Given as goal

abbrev pub invariant-loop-i : goal.invariant-loop-i
invariant-loop-i l = Filling l.rules l.pairs l.n l.at l.table l.place l.i
