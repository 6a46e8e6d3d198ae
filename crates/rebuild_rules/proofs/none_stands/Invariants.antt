use Rattle.encoding.specs.Tables.{name_bytes}
use Rattle.rebuild_rules.specs.Table.{none_stands}
use lib.ListN.{drop}
use mathlib.Core.Path.{◌≡◌}
use Rattle.rebuild_rules.proofs.none_stands.Given as goal

abbrev pub invariant-loop-at : goal.invariant-loop-at
invariant-loop-at l = none_stands (name_bytes l.pairs l.text) l.rules l.table l.k (drop l.at l.words) ≡ none_stands (name_bytes l.pairs l.text) l.rules l.table l.k l.words
