use Rattle.encoding.specs.Tables.{name_bytes}
use Rattle.rebuild_rules.proofs.Steps.{from_at, from_some, stands-run, stands-short}
use lib.ListN.{drop}
use mathlib.Core.Path.{◌∙◌, sym}
use native.Mathlib.Omega.{arith}
use Rattle.rebuild_rules.proofs.stands_at.Goals as goal

pub overflow_sub-count : goal.overflow_sub-count
overflow_sub-count c =
    let s = c in let a = s.args in omega (arith, from_some s.requires.1 s.requires.2 c.entry-from.ensures c.entry.ensures)

pub returns-then-words-at : goal.returns-then-words-at
returns-then-words-at c =
    let s = c in let a = s.args in
    sym (stands-short (name_bytes a.pairs.now a.text.now) (from_at s.requires.1 s.requires.2 c.entry-from.ensures c.entry.ensures) a.words.now a.at s.requires.3 c.if-words-at.true)

pub are_apart-requires : goal.are_apart-requires
are_apart-requires c =
    let s = c in let a = s.args in
    (s.requires.0, omega (arith, c.if-words-at.false, s.requires.3), (from_at s.requires.1 s.requires.2 c.entry-from.ensures c.entry.ensures).inside)

pub returns-then-are_apart : goal.returns-then-are_apart
returns-then-are_apart c =
    let s = c in let a = s.args in
    sym (stands-run (name_bytes a.pairs.now a.text.now) (from_at s.requires.1 s.requires.2 c.entry-from.ensures c.entry.ensures) (drop a.at a.words.now) ∙ c.are_apart.ensures c.if-are_apart.true)

pub same_words-requires : goal.same_words-requires
same_words-requires c =
    let s = c in let a = s.args in
    (s.requires.0, omega (arith, c.if-words-at.false, s.requires.3), (from_at s.requires.1 s.requires.2 c.entry-from.ensures c.entry.ensures).inside)

pub returns : goal.returns
returns c =
    let s = c in let a = s.args in
    c.same_words.ensures ∙ sym (stands-run (name_bytes a.pairs.now a.text.now) (from_at s.requires.1 s.requires.2 c.entry-from.ensures c.entry.ensures) (drop a.at a.words.now))
