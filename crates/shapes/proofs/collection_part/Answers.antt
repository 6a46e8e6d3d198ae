use Rattle.known_paths.specs.declared.Class.TheVariants.{MapClass}
use Rattle.known_paths.proofs.Finding.{first-keeps, found-readable}
use Rattle.unwrap.proofs.Expanding.{expands-readable, expands-ready}
use Rattle.shapes.proofs.Parts.{map-finds, set-finds}
use Rattle.shapes.proofs.collection_part.Goals as goal

pub first_argument-requires : goal.first_argument-requires
first_argument-requires c =
    let a = c.args in
    expands-ready a.words.now a.pairs.now a.text.now a.at _ c.expand-place.ensures c.requires

pub first_argument-requires-in_default : goal.first_argument-requires-in_default
first_argument-requires-in_default c =
    let a = c.args in
    expands-ready a.words.now a.pairs.now a.text.now a.at _ c.expand-place.ensures c.requires

pub returns-in_default : goal.returns-in_default
returns-in_default c =
    let a = c.args in
    set-finds a.words.now a.pairs.now a.text.now a.at _ c.expand-place.ensures c.first_argument.ensures c.in_default.is c.first_argument-in_default.ensures

pub skip_type-requires : goal.skip_type-requires
skip_type-requires c =
    let a = c.args in
    found-readable a.words.now a.pairs.now a.text.now _ (first-keeps a.words.now a.pairs.now a.text.now MapClass) (expands-readable a.words.now a.pairs.now a.text.now a.at _ c.expand-place.ensures c.requires.1) c.first_argument.ensures c.in-Some.is

pub returns : goal.returns
returns c =
    let a = c.args in
    map-finds a.words.now a.pairs.now a.text.now a.at _ c.expand-place.ensures c.first_argument.ensures c.in-Some.is c.skip_type.ensures
