use Rattle.text_fields.proofs.Fields.{rest-as}
use Rattle.text_formal.proofs.Texts.{written_as}
use Rattle.text_formal.specs.Labels.{front}
use Rattle.text_pass.proofs.Passes.{along-start, ready-as}
use mathlib.Core.Path.{sym}
use Rattle.text_fields.proofs.write_label.Goals as goal

pub write_label-requires : goal.write_label-requires
write_label-requires c =
    let a = c.args in
    (c.requires.0, ready-as (rest-as a.words.now a.pairs.now a.text.now a.at c.if-named.true) c.requires.1)

pub returns-then-named : goal.returns-then-named
returns-then-named c =
    let a = c.args in
    written_as (sym (rest-as a.words.now a.pairs.now a.text.now a.at c.if-named.true)) c.write_label.ensures

pub returns : goal.returns
returns c =
    let a = c.args in
    written_as (sym (rest-as a.words.now a.pairs.now a.text.now a.at c.if-named.false)) (front (along-start (ready-as (rest-as a.words.now a.pairs.now a.text.now a.at c.if-named.false) c.requires.1)))
