use mathlib.Core.Path.{sym}
use Rattle.unwrap.proofs.Expanding.{expands-ready}
use Rattle.known_paths.specs.declared.Class.TheVariants.{ArrayClass}
use Rattle.known_paths.specs.Classes.{is_of}
use Rattle.shapes.specs.Shapes.{IsMultiArray}
use Rattle.shapes.proofs.Pointers.{multi-array-is}
use Rattle.shapes.proofs.Judging.{judge-expanded}
use Rattle.shapes.proofs.is_multi_array_at.Goals as goal

pub is_of-requires : goal.is_of-requires
is_of-requires c =
    let a = c.args in
    expands-ready a.words.now a.pairs.now a.text.now a.at _ c.expand-place.ensures c.requires

pub returns : goal.returns
returns c =
    let a = c.args in
    judge-expanded a.words.now a.pairs.now a.text.now a.at (is_of ArrayClass) IsMultiArray _ (λ t. sym (multi-array-is t)) c.expand-place.ensures c.is_of.ensures
