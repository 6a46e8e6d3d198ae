use Rattle.parts.specs.Asked.{part_for}
use Rattle.known_paths.proofs.Finding.{found-readable}
use Rattle.parts.proofs.Spans.{part-forward, part-keeps, span-found, span_none}
use Rattle.parts.proofs.part_at.Goals as goal

pub returns-in_default : goal.returns-in_default
returns-in_default c =
    let a = c.args in
    span_none a.words.now a.pairs.now a.text.now (part_for a.wanted) c.find.ensures c.in_default.is

pub skip_type-requires : goal.skip_type-requires
skip_type-requires c =
    let a = c.args in
    found-readable a.words.now a.pairs.now a.text.now 0 (part-keeps a.words.now a.pairs.now a.text.now a.wanted) c.requires.1 c.find.ensures c.in-Some.is

pub overflow_sub-length : goal.overflow_sub-length
overflow_sub-length c =
    let a = c.args in
    part-forward a.words.now a.pairs.now a.text.now _ c.skip_type.ensures

pub returns : goal.returns
returns c =
    let a = c.args in
    span-found a.words.now a.pairs.now a.text.now (part_for a.wanted) (part-keeps a.words.now a.pairs.now a.text.now a.wanted) c.find.ensures c.in-Some.is c.skip_type.ensures
