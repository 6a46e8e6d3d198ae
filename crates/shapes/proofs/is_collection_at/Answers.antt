use Rattle.unwrap.proofs.Expanding.{expands-ready}
use Rattle.known_paths.specs.declared.Class.TheVariants.{Collection, MapClass}
use Rattle.shapes.specs.Shapes.{IsBuiltinCollection}
use Rattle.shapes.proofs.Collections.{collection-is}
use Rattle.shapes.proofs.Judging.{judge-class, judge-other-class}
use Rattle.shapes.proofs.is_collection_at.Goals as goal

pub is_of-requires : goal.is_of-requires
is_of-requires c =
    let a = c.args in
    expands-ready a.words.now a.pairs.now a.text.now a.at _ c.expand-place.ensures c.requires

pub returns-then-is_of : goal.returns-then-is_of
returns-then-is_of c =
    let a = c.args in
    judge-class a.words.now a.pairs.now a.text.now a.at Collection MapClass IsBuiltinCollection collection-is _ c.expand-place.ensures c.is_of.ensures c.if-is_of.true

pub is_of-requires-2 : goal.is_of-requires-2
is_of-requires-2 c =
    let a = c.args in
    expands-ready a.words.now a.pairs.now a.text.now a.at _ c.expand-place.ensures c.requires

pub returns : goal.returns
returns c =
    let a = c.args in
    judge-other-class a.words.now a.pairs.now a.text.now a.at Collection MapClass IsBuiltinCollection collection-is _ c.expand-place.ensures c.is_of.ensures c.if-is_of.false c.is_of-2.ensures
