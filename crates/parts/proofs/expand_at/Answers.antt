use Rattle.encoding.proofs.Reading.{handed-on}
use Rattle.std.proofs.Common.{◌∙◌}
use Rattle.shapes.proofs.Answers.{accepted, ready}
use Rattle.shapes.specs.Parts.{ExpandAt}
use Rattle.parts.proofs.Spans.{expanded-end, expanded-given, part-forward, part-refused}
use Rattle.parts.proofs.expand_at.Goals as goal

pub expand-start-requires : goal.expand-start-requires
expand-start-requires c =
    let a = c.args in
    (ready a.words.now a.pairs.now a.text.now c.accept.ensures c.in_ok-accept.was).1

pub overflow_sub-length : goal.overflow_sub-length
overflow_sub-length c =
    let a = c.args in
    part-forward a.words.now a.pairs.now a.text.now _ (expanded-end a.words.now a.pairs.now a.text.now (accepted a.words.now a.pairs.now a.text.now c.accept.ensures c.in_ok-accept.was) c.expand-start.ensures)

pub returns : goal.returns
returns c =
    let a = c.args in
    expanded-given a.words.now a.pairs.now a.text.now (accepted a.words.now a.pairs.now a.text.now c.accept.ensures c.in_ok-accept.was) c.expand-start.ensures

pub returns-in_err-accept : goal.returns-in_err-accept
returns-in_err-accept c =
    let a = c.args in
    handed-on c.from_residual.ensures.1 ∙ part-refused a.words.now a.pairs.now a.text.now ExpandAt c.accept.ensures c.in_err-accept.was
