use Rattle.encoding.specs.Tables.{name_bytes}
use Rattle.rebuild_rules.proofs.Links.{along-first, found-along}
use lib.ListN.{get_or}
use mathlib.Core.Path.{◌∙◌}
use Rattle.rebuild_rules.proofs.find_rule.Goals as goal

pub find_along-requires : goal.find_along-requires
find_along-requires c =
    let s = c in let a = s.args in
    (s.requires.0, s.requires.1, s.requires.2, s.requires.3, s.requires.4, along-first a.rules.now a.table.now a.k s.requires.2 (get_or a.out.now a.start 0) s.requires.5)

pub returns : goal.returns
returns c =
    let s = c in let a = s.args in
    c.find_along.ensures ∙ found-along (name_bytes a.pairs.now a.text.now) a.rules.now a.table.now s.requires.1 s.requires.2 a.out.now a.start a.count s.requires.4 s.requires.3 s.requires.5
