use Rattle.known_paths.proofs.Finding.{found-ready}
use Rattle.shapes.proofs.Parts.{extract-finds, extract-none, pointer-keeps}
use Rattle.shapes.proofs.uninit_array_part.Goals as goal

pub returns-in_default : goal.returns-in_default
returns-in_default c =
    let a = c.args in
    extract-none a.words.now a.pairs.now a.text.now a.at c.object_or_pointer_part.ensures c.in_default.is

pub uninit_part-requires : goal.uninit_part-requires
uninit_part-requires c =
    let a = c.args in
    found-ready a.words.now a.pairs.now a.text.now a.at (pointer-keeps a.words.now a.pairs.now a.text.now) c.requires c.object_or_pointer_part.ensures c.in-Some.is

pub returns : goal.returns
returns c =
    let a = c.args in
    extract-finds a.words.now a.pairs.now a.text.now a.at c.object_or_pointer_part.ensures c.in-Some.is c.uninit_part.ensures
