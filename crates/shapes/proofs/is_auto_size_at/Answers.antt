use Rattle.unwrap.proofs.Expanding.{expands-here}
use Rattle.shapes.proofs.Judging.{judge-auto}
use borrow.Author.Rules.{rules}
use Rattle.shapes.proofs.is_auto_size_at.Goals as goal

pub offset_bounds-words-expand : goal.offset_bounds-words-expand
offset_bounds-words-expand c =
    let a = c.args in
    let h = expands-here a.words.now a.pairs.now a.text.now a.at _ c.expand.ensures c.requires in search rules

pub bounds-words-expand : goal.bounds-words-expand
bounds-words-expand c =
    let a = c.args in
    expands-here a.words.now a.pairs.now a.text.now a.at _ c.expand.ensures c.requires

pub returns : goal.returns
returns c =
    let a = c.args in
    judge-auto a.words.now a.pairs.now a.text.now a.at _ c.expand.ensures
