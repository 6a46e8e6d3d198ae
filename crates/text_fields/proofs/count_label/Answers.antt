use Rattle.text_fields.proofs.Fields.{rest-as}
use Rattle.text_formal.proofs.Texts.{labelled-as}
use Rattle.text_formal.specs.Labels.{opened}
use Rattle.text_pass.proofs.Passes.{along-start, ready-count}
use mathlib.Core.Path.{sym}
use Rattle.text_fields.proofs.count_label.Goals as goal

pub returns-then-named : goal.returns-then-named
returns-then-named c =
    let a = c.args in
    labelled-as (sym (rest-as a.words.now a.pairs.now a.text.now a.at c.if-named.true)) c.count_label.ensures

pub returns : goal.returns
returns c =
    let a = c.args in
    labelled-as (sym (rest-as a.words.now a.pairs.now a.text.now a.at c.if-named.false)) (opened (along-start ready-count))
