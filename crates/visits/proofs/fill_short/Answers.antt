use native.Mathlib.Omega.{arith}
use Rattle.visits.proofs.Answers.{fills-readable, same_count, visits-done, visits-short}
use Rattle.visits.proofs.fill_short.Goals as goal

pub visit_whole-requires : goal.visit_whole-requires
visit_whole-requires c =
    let a = c.args in
    (c.requires.0, fills-readable a.words.now a.pairs.now a.text.now c.requires.1)

pub returns-then-out-visit_whole : goal.returns-then-out-visit_whole
returns-then-out-visit_whole c =
    let a = c.args in
    visits-short a.words.now a.pairs.now a.text.now a.what a.out.now c.requires.1 c.visit_whole.ensures c.if-out-visit_whole.true

pub visit_whole-requires-2 : goal.visit_whole-requires-2
visit_whole-requires-2 c =
    let a = c.args in
    (c.requires.0, fills-readable a.words.now a.pairs.now a.text.now c.requires.1)

pub returns : goal.returns
returns c =
    let a = c.args in
    let v = c.visit_whole-2.ensures in
    visits-done a.words.now a.pairs.now a.text.now a.what a.out.now c.requires.1 v (omega (arith, same_count a.words.now a.pairs.now a.text.now v c.visit_whole.ensures, c.if-out-visit_whole.false))
