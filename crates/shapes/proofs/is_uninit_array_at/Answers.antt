use Rattle.known_paths.proofs.Finding.{found-readable, found-ready}
use Rattle.unwrap.proofs.Expanding.{expands-ready}
use Rattle.shapes.proofs.Judging.{judge-no-pointer, judge-pointed}
use Rattle.shapes.proofs.Parts.{pointer-keeps}
use Rattle.shapes.proofs.is_uninit_array_at.Goals as goal

pub returns-in_default : goal.returns-in_default
returns-in_default c =
    let a = c.args in
    judge-no-pointer a.words.now a.pairs.now a.text.now a.at c.object_or_pointer_part.ensures c.in_default.is

pub expand-requires : goal.expand-requires
expand-requires c =
    let a = c.args in
    found-readable a.words.now a.pairs.now a.text.now a.at (pointer-keeps a.words.now a.pairs.now a.text.now) c.requires.1 c.object_or_pointer_part.ensures c.in-Some.is

pub holds_uninit-requires : goal.holds_uninit-requires
holds_uninit-requires c =
    let a = c.args in
    expands-ready a.words.now a.pairs.now a.text.now _ _ c.expand.ensures (found-ready a.words.now a.pairs.now a.text.now a.at (pointer-keeps a.words.now a.pairs.now a.text.now) c.requires c.object_or_pointer_part.ensures c.in-Some.is)

pub returns : goal.returns
returns c =
    let a = c.args in
    judge-pointed a.words.now a.pairs.now a.text.now a.at c.object_or_pointer_part.ensures c.in-Some.is c.expand.ensures c.holds_uninit.ensures
