use Rattle.encoding.proofs.Reading.{handed-on}
use Rattle.std.proofs.Common.{refl, ◌∙◌}
use Rattle.shapes.proofs.Answers.{ready, shape-answered, shape-refused}
use Rattle.shapes.proofs.ask.Goals as goal

pub question-requires : goal.question-requires
question-requires g c =
    let a = c.args in
    c.requires (ready a.words.now a.pairs.now a.text.now c.accept.ensures c.in_ok-accept.was)

pub returns : goal.returns
returns g c =
    let a = c.args in
    λ asked says. shape-answered a.words.now a.pairs.now a.text.now asked c.accept.ensures c.in_ok-accept.was (says _ c.question.ensures) refl

pub returns-in_err-accept : goal.returns-in_err-accept
returns-in_err-accept g c =
    let a = c.args in
    λ asked says. handed-on c.from_residual.ensures.1 ∙ shape-refused a.words.now a.pairs.now a.text.now asked c.accept.ensures c.in_err-accept.was
