use Rattle.std.specs.Option.{is_some}
use Rattle.encoding.specs.Tables.{name_bytes}
use Rattle.rebuild_rules.specs.Table.{stands}
use Rattle.rebuild_rules.proofs.Links.{along-first, found-first, some_along}
use Rattle.rebuild_rules.proofs.Steps.{stands-missed}
use lib.ListN.{drop, get_or}
use mathlib.Core.Path.{◌∙◌, ap}
use borrow.Author.Rules.{rules}
use Rattle.rebuild_rules.proofs.some_stands.Goals as goal

pub first_along-found-requires-clause-along : goal.first_along-found-requires-clause-along
first_along-found-requires-clause-along c =
    let s = c in let a = s.args in
    (_, along-first a.rules.now a.table.now a.k s.requires.2 (get_or a.words.now a.at 0) c.first_link-link.ensures)

pub returns : goal.returns
returns c =
    let s = c in let a = s.args in
    c.is_some.ensures
    ∙ ap is_some
    (found-first s.requires.2 (stands (name_bytes a.pairs.now a.text.now) a.rules.now a.table.now (drop a.at a.words.now)) (λ i b h p. search rules)
    (stands-missed (name_bytes a.pairs.now a.text.now) a.rules.now a.table.now s.requires.1 a.words.now a.at s.requires.3)
    (along-first a.rules.now a.table.now a.k s.requires.2 (get_or a.words.now a.at 0) c.first_link-link.ensures) c.first_along-found.ensures)
    ∙ some_along (name_bytes a.pairs.now a.text.now) a.rules.now a.table.now s.requires.1 s.requires.2 a.words.now a.at s.requires.3 c.first_link-link.ensures
