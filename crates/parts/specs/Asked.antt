-- What the functions behind the calls are asked for and answer.
use Rattle.encoding.specs.declared.Refusal.{Refusal}
use Rattle.std.specs.Prelude.{Option, Result, ℕ, ◌≡◌}
use Rattle.rast.specs.Bytes.{Bytes}
use Rattle.rast.specs.Tree.{Ty}
use Rattle.encoding.specs.Reading.{Reading, got}
use Rattle.tree_words.specs.Places.{Place, place}
use Rattle.shapes.specs.Parts.{RemoveSynonyms, ExpandAt, ToOwned, MultiArrayUnderlying, BoxUnderlying, ObjectOrPointerUnderlying, RcUnderlying, BoxDynUnderlying, GetBuiltinCollectionElement, ExtractMaybePlacebo, ExtractMaybeUninitArrayElement}
use Rattle.parts.specs.declared.Wanted.{Wanted}
use Rattle.parts.specs.declared.Wanted.TheVariants.{Removed, Expanded, Owned, OfMultiArray, OfBox, OfPointer, OfRc, OfBoxDyn, OfCollection, OfPlacebo, OfUninitArray}
use Rattle.parts.specs.declared.Span.{Span}
use Rattle.parts.specs.Answers.{span_of}

-- the part that a call asks for
abbrev pub part_for : Wanted → Place Bytes → Option (Place Bytes)
part_for Removed = RemoveSynonyms
part_for Expanded = ExpandAt
part_for Owned = ToOwned
part_for OfMultiArray = MultiArrayUnderlying
part_for OfBox = BoxUnderlying
part_for OfPointer = ObjectOrPointerUnderlying
part_for OfRc = RcUnderlying
part_for OfBoxDyn = BoxDynUnderlying
part_for OfCollection = GetBuiltinCollectionElement
part_for OfPlacebo = ExtractMaybePlacebo
part_for OfUninitArray = ExtractMaybeUninitArrayElement

-- the answer r gives the part f of the type that was read at 0
pub record Spans (f : Place Bytes → Option (Place Bytes)) (x : Reading (Ty Bytes)) (r : Result Span Refusal) : Type 0 where
  pub says : (t : Ty Bytes) (n : ℕ) → x ≡ got t n → r ≡ span_of (f (place 0 t))
