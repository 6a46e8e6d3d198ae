use Rattle.encoding.specs.Tables.{name_bytes}
use Rattle.rebuild_rules.proofs.Steps.{from_at, from-even, from_some, from-uneven}
use lib.ListN.{drop, take}
use mathlib.Core.Path.{◌∙◌, sym}
use native.Mathlib.Omega.{arith}
use Rattle.rebuild_rules.proofs.is_from.Goals as goal

pub overflow_sub-entry : goal.overflow_sub-entry
overflow_sub-entry c =
    let s = c in let a = s.args in omega (arith, from_some s.requires.1 s.requires.2 c.entry-from.ensures c.entry.ensures)

pub returns-then-entry-from : goal.returns-then-entry-from
returns-then-entry-from c =
    let s = c in let a = s.args in
    sym (from-uneven (name_bytes a.pairs.now a.text.now) (from_at s.requires.1 s.requires.2 c.entry-from.ensures c.entry.ensures) a.out.now a.start a.count s.requires.3 c.if-entry-from.true)

pub same_words-requires : goal.same_words-requires
same_words-requires c =
    let s = c in let a = s.args in
    (s.requires.0, s.requires.3, omega (arith, c.if-entry-from.false, (from_at s.requires.1 s.requires.2 c.entry-from.ensures c.entry.ensures).inside))

pub returns : goal.returns
returns c =
    let s = c in let a = s.args in
    c.same_words.ensures ∙ from-even (name_bytes a.pairs.now a.text.now) (from_at s.requires.1 s.requires.2 c.entry-from.ensures c.entry.ensures) (take a.count (drop a.start a.out.now)) c.if-entry-from.false
