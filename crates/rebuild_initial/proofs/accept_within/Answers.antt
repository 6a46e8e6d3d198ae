use Rattle.std.proofs.Common.{◌-◌, ◌∙◌, length}
use Rattle.shapes.proofs.Answers.{whole-left, whole-passed, whole-stopped}
use Rattle.rebuild_initial.specs.Initialized.{type_within}
use Rattle.encoding.proofs.Reading.{handed-on}
use Rattle.rebuild_initial.proofs.accept_within.Goals as goal

pub returns-then-next-words : goal.returns-then-next-words
returns-then-next-words c =
    let a = c.args in
    whole-left (length a.words.now) (type_within (64 - a.inside) a.words.now a.pairs.now a.text.now) c.accept_type.ensures c.in_ok-next.was c.if-next-words.true

pub returns : goal.returns
returns c =
    let a = c.args in
    whole-passed (length a.words.now) (type_within (64 - a.inside) a.words.now a.pairs.now a.text.now) c.accept_type.ensures c.in_ok-next.was c.if-next-words.false

pub returns-in_err-next : goal.returns-in_err-next
returns-in_err-next c =
    let a = c.args in
    handed-on c.from_residual.ensures.1 ∙ whole-stopped (length a.words.now) (type_within (64 - a.inside) a.words.now a.pairs.now a.text.now) c.accept_type.ensures c.in_err-next.was
