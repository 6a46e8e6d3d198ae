use mathlib.Core.Bool.{Bool}
use mathlib.Core.Path.{◌∙◌, ap, refl}
use lib.ListN.{length}
use Rattle.buffer.proofs.Passes.{laid-size}
use Rattle.text_fields.proofs.Fields.{list-first, went-handed}
use Rattle.text_fields.specs.Texts.{no_fields}
use Rattle.text_pass.proofs.Leaves.{count_none, count-refused, count-some}
use Rattle.text_pass.proofs.Passes.{last-went, ready-count}
use Rattle.text_pass.specs.Passes.{came}
use Rattle.text_fields.proofs.count_list.Goals as goal

pub returns-then-value-eq0 : goal.returns-then-value-eq0
returns-then-value-eq0 c =
    let a = c.args in
    let size = c.none_length.ensures.0 ∙ ap (λ (b : Bool). length (no_fields b)) c.is_named.ensures in came (count_none (list-first a.words.now a.pairs.now a.text.now a.entry a.level a.at) c.scan_word.ensures c.in_ok-value.was c.if-value-eq0.true (laid-size refl c.count_few.ensures size))

pub returns : goal.returns
returns c =
    let a = c.args in
    last-went (count-some (list-first a.words.now a.pairs.now a.text.now a.entry a.level a.at) c.scan_word.ensures c.in_ok-value.was c.if-value-eq0.false ready-count) c.count_some.ensures

pub returns-in_err-value : goal.returns-in_err-value
returns-in_err-value c =
    let a = c.args in
    went-handed refl c.from_residual.ensures.1 (count-refused (list-first a.words.now a.pairs.now a.text.now a.entry a.level a.at) c.scan_word.ensures c.in_err-value.was)
