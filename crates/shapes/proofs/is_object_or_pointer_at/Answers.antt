use Rattle.unwrap.proofs.Expanding.{expands-ready}
use Rattle.known_paths.specs.declared.Class.TheVariants.{PtrClass, ObjectClass}
use Rattle.shapes.specs.Shapes.{IsObjectOrPointer}
use Rattle.shapes.proofs.Pointers.{pointer_is}
use Rattle.shapes.proofs.Judging.{judge-class, judge-other-class}
use Rattle.shapes.proofs.is_object_or_pointer_at.Goals as goal

pub is_of-requires : goal.is_of-requires
is_of-requires c =
    let a = c.args in
    expands-ready a.words.now a.pairs.now a.text.now a.at _ c.expand-place.ensures c.requires

pub returns-then-is_of : goal.returns-then-is_of
returns-then-is_of c =
    let a = c.args in
    judge-class a.words.now a.pairs.now a.text.now a.at PtrClass ObjectClass IsObjectOrPointer pointer_is _ c.expand-place.ensures c.is_of.ensures c.if-is_of.true

pub is_of-requires-2 : goal.is_of-requires-2
is_of-requires-2 c =
    let a = c.args in
    expands-ready a.words.now a.pairs.now a.text.now a.at _ c.expand-place.ensures c.requires

pub returns : goal.returns
returns c =
    let a = c.args in
    judge-other-class a.words.now a.pairs.now a.text.now a.at PtrClass ObjectClass IsObjectOrPointer pointer_is _ c.expand-place.ensures c.is_of.ensures c.if-is_of.false c.is_of-2.ensures
