use Rattle.known_paths.specs.Classes.{arity, first, in_class, is_of}
use Rattle.shapes.specs.Parts.{BoxUnderlying, ExtractMaybePlacebo, RcUnderlying}
use Rattle.shapes.specs.Shapes.{IsBox, IsRc}
use Rattle.parts.proofs.Spans.{expanded-finds, owned-finds, removed-finds}
use Rattle.parts.proofs.find.Goals as goal

pub remove_wrappers-requires : goal.remove_wrappers-requires
remove_wrappers-requires c = c.requires.1

pub expand-requires : goal.expand-requires
expand-requires c = c.requires.1

pub owned-requires : goal.owned-requires
owned-requires c = c.requires.1

pub returns-in-Removed : goal.returns-in-Removed
returns-in-Removed c =
    let a = c.args in
    rw c.in-Removed.is (removed-finds a.words.now a.pairs.now a.text.now a.at _ c.remove_wrappers.ensures)

pub returns-in-Expanded : goal.returns-in-Expanded
returns-in-Expanded c =
    let a = c.args in
    rw c.in-Expanded.is (expanded-finds a.words.now a.pairs.now a.text.now a.at _ c.expand.ensures)

pub returns-in-Owned : goal.returns-in-Owned
returns-in-Owned c =
    let a = c.args in
    rw c.in-Owned.is (owned-finds a.words.now a.pairs.now a.text.now a.at _ c.owned.ensures)

pub returns-in-OfMultiArray : goal.returns-in-OfMultiArray
returns-in-OfMultiArray c = rw c.in-OfMultiArray.is c.multi_array_part.ensures

pub returns-in-OfBox : goal.returns-in-OfBox
unfolding BoxUnderlying first IsBox is_of in_class arity
returns-in-OfBox c = rw c.in-OfBox.is c.first_argument.ensures

pub returns-in-OfPointer : goal.returns-in-OfPointer
returns-in-OfPointer c = rw c.in-OfPointer.is c.object_or_pointer_part.ensures

pub returns-in-OfRc : goal.returns-in-OfRc
unfolding RcUnderlying first IsRc is_of in_class arity
returns-in-OfRc c = rw c.in-OfRc.is c.first_argument-in-OfRc.ensures

pub returns-in-OfBoxDyn : goal.returns-in-OfBoxDyn
returns-in-OfBoxDyn c = rw c.in-OfBoxDyn.is c.box_dyn_part.ensures

pub returns-in-OfCollection : goal.returns-in-OfCollection
returns-in-OfCollection c = rw c.in-OfCollection.is c.collection_part.ensures

pub returns-in-OfPlacebo : goal.returns-in-OfPlacebo
unfolding ExtractMaybePlacebo first is_of in_class arity
returns-in-OfPlacebo c = rw c.in-OfPlacebo.is c.first_argument-in-OfPlacebo.ensures

pub returns-in-OfUninitArray : goal.returns-in-OfUninitArray
returns-in-OfUninitArray c = rw c.in-OfUninitArray.is c.uninit_array_part.ensures
