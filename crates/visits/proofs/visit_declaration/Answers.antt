use Rattle.declaration_walk.proofs.Passes.{begun}
use Rattle.visits.proofs.Entering.{entered-ahead, entered_all, not-begun-read}
use Rattle.visits.proofs.visit_declaration.Goals as goal

pub visit_walk-requires : goal.visit_walk-requires
visit_walk-requires c =
    let s = c in
    let a = s.args in
    let n = c.name_count-bound.ensures in
    let b = begun a.words.now a.pairs.now a.text.now (rw n at c.start_walk.ensures) c.in-Ok.is in
    (n, entered-ahead a.words.now a.pairs.now a.text.now s.requires.0 s.requires.1 b)

pub returns-in-Ok : goal.returns-in-Ok
returns-in-Ok c =
    let s = c in
    let a = s.args in
    let n = c.name_count-bound.ensures in
    let b = begun a.words.now a.pairs.now a.text.now (rw n at c.start_walk.ensures) c.in-Ok.is in
    entered_all a.words.now a.pairs.now a.text.now s.requires.1 b c.visit_walk.ensures

pub returns-in-Err : goal.returns-in-Err
returns-in-Err c =
    let s = c in
    let a = s.args in
    absurd (not-begun-read a.words.now a.pairs.now a.text.now (rw c.name_count-bound.ensures at c.start_walk.ensures) c.in-Err.is s.requires.1)
