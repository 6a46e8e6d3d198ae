use Rattle.encoding.proofs.Reading.{handed-on}
use Rattle.std.proofs.Common.{◌∙◌}
use Rattle.parts.specs.Asked.{part_for}
use Rattle.shapes.proofs.Answers.{accepted, ready}
use Rattle.parts.proofs.Spans.{part-given, part-refused}
use Rattle.parts.proofs.part_in.Goals as goal

pub part_at-requires : goal.part_at-requires
part_at-requires c =
    let a = c.args in
    ready a.words.now a.pairs.now a.text.now c.accept.ensures c.in_ok-accept.was

pub returns : goal.returns
returns c =
    let a = c.args in
    part-given a.words.now a.pairs.now a.text.now (part_for a.wanted) (accepted a.words.now a.pairs.now a.text.now c.accept.ensures c.in_ok-accept.was) c.part_at.ensures

pub returns-in_err-accept : goal.returns-in_err-accept
returns-in_err-accept c =
    let a = c.args in
    handed-on c.from_residual.ensures.1 ∙ part-refused a.words.now a.pairs.now a.text.now (part_for a.wanted) c.accept.ensures c.in_err-accept.was
