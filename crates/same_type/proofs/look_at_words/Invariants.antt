use Rattle.same_type.proofs.Words.{Compares}
use Rattle.same_type.specs.Looks.{looks}
use lib.ListN.{drop, take}
use mathlib.Core.Bool.{true}
use Rattle.same_type.proofs.look_at_words.Given as goal

abbrev pub invariant-loop-k : goal.invariant-loop-k
invariant-loop-k l = Compares looks l.a l.b l.start l.from l.count (looks true (take l.count (drop l.start l.a)) (take l.count (drop l.from l.b))) l.equal l.k
