use Rattle.unwrap.proofs.Expanding.{expands-ready}
use Rattle.shapes.proofs.Parts.{object-finds, pointer-finds}
use Rattle.shapes.proofs.object_or_pointer_part.Goals as goal

pub first_argument-requires : goal.first_argument-requires
first_argument-requires c =
    let a = c.args in
    expands-ready a.words.now a.pairs.now a.text.now a.at _ c.expand-place.ensures c.requires

pub first_argument-requires-in_default : goal.first_argument-requires-in_default
first_argument-requires-in_default c =
    let a = c.args in
    expands-ready a.words.now a.pairs.now a.text.now a.at _ c.expand-place.ensures c.requires

pub returns-in_default : goal.returns-in_default
returns-in_default c =
    let a = c.args in
    object-finds a.words.now a.pairs.now a.text.now a.at _ c.expand-place.ensures c.first_argument.ensures c.in_default.is c.first_argument-in_default.ensures

pub returns : goal.returns
returns c =
    let a = c.args in
    pointer-finds a.words.now a.pairs.now a.text.now a.at _ c.expand-place.ensures c.first_argument.ensures c.in-Some.is
