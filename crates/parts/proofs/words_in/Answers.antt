use Rattle.parts.specs.Asked.{part_for}
use Rattle.parts.proofs.Spans.{part-keeps, part-within, words-given, words-refused}
use borrow.Author.Rules.{rules}
use Rattle.parts.proofs.words_in.Goals as goal

pub returns-in_default : goal.returns-in_default
returns-in_default c =
    let a = c.args in
    words-refused a.words.now a.pairs.now a.text.now (part_for a.wanted) (part-keeps a.words.now a.pairs.now a.text.now a.wanted) c.part_in.ensures c.in_default.is

pub overflow_add-result : goal.overflow_add-result
overflow_add-result c =
    let h = part-within c.args.words.now c.args.pairs.now c.args.text.now (part_for c.args.wanted) (part-keeps c.args.words.now c.args.pairs.now c.args.text.now c.args.wanted) c.part_in.ensures c.in-Ok.is in
    search rules

pub offset_bounds-words-start : goal.offset_bounds-words-start
offset_bounds-words-start c =
    let h = part-within c.args.words.now c.args.pairs.now c.args.text.now (part_for c.args.wanted) (part-keeps c.args.words.now c.args.pairs.now c.args.text.now c.args.wanted) c.part_in.ensures c.in-Ok.is in
    search rules

pub returns : goal.returns
returns c =
    let a = c.args in
    words-given a.words.now a.pairs.now a.text.now (part_for a.wanted) (part-keeps a.words.now a.pairs.now a.text.now a.wanted) c.part_in.ensures c.in-Ok.is

pub slice_bounds-result-end-2 : goal.slice_bounds-result-end-2
slice_bounds-result-end-2 c =
    let a = c.args in
    part-within a.words.now a.pairs.now a.text.now (part_for a.wanted) (part-keeps a.words.now a.pairs.now a.text.now a.wanted) c.part_in.ensures c.in-Ok.is
