use Rattle.std.specs.Option.{is_some}
use Rattle.encoding.specs.Tables.{name_bytes}
use Rattle.rebuild_rules.proofs.Links.{along-behind, among-along}
use Rattle.rebuild_rules.proofs.Steps.{from_at, from_some}
use mathlib.Core.Path.{◌∙◌, ap}
use native.Mathlib.Omega.{arith}
use Rattle.rebuild_rules.proofs.is_among.Goals as goal

pub overflow_sub-count : goal.overflow_sub-count
overflow_sub-count c =
    let s = c in let a = s.args in omega (arith, from_some s.requires.1 s.requires.3 c.entry-start.ensures c.entry.ensures)

pub find_along-requires : goal.find_along-requires
find_along-requires c =
    let s = c in let a = s.args in let g = from_at s.requires.1 s.requires.3 c.entry-start.ensures c.entry.ensures in
    (s.requires.0, s.requires.1, s.requires.2, g.some, g.inside, along-behind a.rules.now a.table.now a.k s.requires.2 a.i s.requires.3 c.entry-start.ensures c.entry-link.ensures)

pub returns : goal.returns
returns c =
    let s = c in let a = s.args in
    c.is_some.ensures ∙ ap is_some c.find_along.ensures ∙ among-along (name_bytes a.pairs.now a.text.now) a.rules.now a.table.now s.requires.1 s.requires.2 a.i s.requires.3 (from_at s.requires.1 s.requires.3 c.entry-start.ensures c.entry.ensures) c.entry-start.ensures c.entry-link.ensures
