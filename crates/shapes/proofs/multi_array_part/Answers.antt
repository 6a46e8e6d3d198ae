use Rattle.unwrap.proofs.Expanding.{expands-ready}
use Rattle.shapes.proofs.Parts.{multi-array-finds}
use Rattle.shapes.proofs.multi_array_part.Goals as goal

pub first_argument-requires : goal.first_argument-requires
first_argument-requires c =
    let a = c.args in
    expands-ready a.words.now a.pairs.now a.text.now a.at _ c.expand.ensures c.requires

pub returns : goal.returns
returns c =
    let a = c.args in
    multi-array-finds a.words.now a.pairs.now a.text.now a.at _ c.expand.ensures c.first_argument.ensures
