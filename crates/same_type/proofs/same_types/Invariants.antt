use Rattle.same_type.proofs.Words.{Compares}
use Rattle.same_type.specs.Runs.{same_runs}
use Rattle.same_type.specs.declared.Due.TheVariants.{Kind}
use Rattle.encoding.specs.Tables.{name_bytes}
use lib.ListN.{drop, take}
use Rattle.same_type.proofs.same_types.Given as goal

abbrev pub invariant-loop-k : goal.invariant-loop-k
invariant-loop-k l = Compares (same_runs (name_bytes l.pairs l.text)) l.a l.b l.start l.from l.count (same_runs (name_bytes l.pairs l.text) Kind (take l.count (drop l.start l.a)) (take l.count (drop l.from l.b))) l.due l.k
