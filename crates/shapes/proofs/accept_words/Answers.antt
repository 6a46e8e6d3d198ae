use Rattle.encoding.proofs.Reading.{handed-on}
use Rattle.encoding.specs.Types.{type_at}
use Rattle.std.proofs.Common.{◌∙◌, length, arith}
use Rattle.shapes.proofs.Answers.{whole-left, whole-passed, whole-stopped}
use Rattle.shapes.proofs.accept_words.Goals as goal

pub accept_type-requires : goal.accept_type-requires
accept_type-requires c = (c.requires.0, c.requires.1, omega arith)

pub returns-then-next-words : goal.returns-then-next-words
returns-then-next-words c =
    let a = c.args in
    whole-left (length a.words.now) (type_at a.words.now a.pairs.now a.text.now 0) c.accept_type.ensures c.in_ok-next.was c.if-next-words.true

pub returns : goal.returns
returns c =
    let a = c.args in
    whole-passed (length a.words.now) (type_at a.words.now a.pairs.now a.text.now 0) c.accept_type.ensures c.in_ok-next.was c.if-next-words.false

pub returns-in_err-next : goal.returns-in_err-next
returns-in_err-next c =
    let a = c.args in
    handed-on c.from_residual.ensures.1 ∙ whole-stopped (length a.words.now) (type_at a.words.now a.pairs.now a.text.now 0) c.accept_type.ensures c.in_err-next.was
