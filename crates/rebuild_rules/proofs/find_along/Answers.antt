use Rattle.encoding.specs.Tables.{name_bytes}
use Rattle.rebuild_rules.specs.Table.{is_from}
use Rattle.rebuild_rules.proofs.Links.{found-first}
use Rattle.rebuild_rules.proofs.Steps.{from-missed}
use lib.ListN.{drop, take}
use borrow.Author.Rules.{rules}
use Rattle.rebuild_rules.proofs.find_along.Goals as goal

pub first_along-requires-clause-along : goal.first_along-requires-clause-along
first_along-requires-clause-along c = (_, c.requires.5)

pub returns : goal.returns
returns c =
    let s = c in let a = s.args in
    found-first s.requires.2 (is_from (name_bytes a.pairs.now a.text.now) a.rules.now a.table.now (take a.count (drop a.start a.out.now))) (λ i b h p. search rules)
    (from-missed (name_bytes a.pairs.now a.text.now) a.rules.now a.table.now s.requires.1 a.out.now a.start a.count s.requires.4 s.requires.3) s.requires.5 c.first_along.ensures
