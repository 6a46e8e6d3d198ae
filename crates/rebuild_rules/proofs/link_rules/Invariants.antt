use Rattle.rebuild_rules.proofs.Links.{Linking}
use Rattle.rebuild_rules.proofs.link_rules.Given as goal

abbrev pub invariant-loop-i : goal.invariant-loop-i
invariant-loop-i l = Linking l.rules l.initial.table l.table l.i l.k
