use Rattle.rebuild_type.proofs.Calls.{attempt-again, denied-fills, filled-fills}
use Rattle.rebuild_type.specs.Laid.{mapping}
use Rattle.rebuild_calls.proofs.Unaltered.{none-match, unaltered-fills}
use Rattle.rebuild_calls.proofs.Wholes.{ended-readable}
use mathlib.Core.Path.{◌∙◌, sym}
use native.Mathlib.Omega.{arith}
use Rattle.rebuild_calls.proofs.fill_more.Goals as goal

pub none_stands-requires : goal.none_stands-requires
none_stands-requires c = let pre = c.requires in (pre.0, pre.1.fits, pre.1.links)

pub returns-then-none_stands : goal.returns-then-none_stands
returns-then-none_stands c =
    let s = c in let a = s.args in
    unaltered-fills a.words.now a.pairs.now (mapping a.rules.now a.pairs.now a.text.now) (none-match s.requires.1 (sym c.none_stands.ensures ∙ c.if-none_stands.true)) a.what s.requires.3 c.copy_unaltered.ensures

pub attempt-requires : goal.attempt-requires
attempt-requires c = let pre = c.requires in (pre.0, pre.1, ended-readable _ pre.3, omega arith)

pub returns-in-Filled : goal.returns-in-Filled
returns-in-Filled c = filled-fills c.attempt.ensures c.in-Filled.is

pub returns-in-Denied : goal.returns-in-Denied
returns-in-Denied c = denied-fills c.attempt.ensures c.in-Denied.is

pub returns-in-NoRoom : goal.returns-in-NoRoom
returns-in-NoRoom c = attempt-again c.attempt.ensures c.in-NoRoom.is c.fill_large-in-NoRoom.ensures
