use mathlib.Core.Path.{refl, sym}
use Rattle.rast.specs.Bytes.{ascii}
use Rattle.buffer.proofs.Passes.{laid_as, laid-counted, laid-nothing}
use Rattle.text_pass.proofs.Leaves.{hidden, scanned-refused, scanned-went, visibility-word, visible}
use Rattle.text_pass.proofs.Passes.{went-handed}
use Rattle.text_pass.proofs.count_visibility.Goals as goal

pub returns-then-value-ne-PUB : goal.returns-then-value-ne-PUB
returns-then-value-ne-PUB c =
    let a = c.args in
    scanned-went (visibility-word a.words.now a.at) refl c.scan_below.ensures c.in_ok-value.was (laid_as (sym (hidden c.if-value-ne-PUB.true)) (laid-nothing _ _))

pub returns : goal.returns
unfolding ascii
returns c =
    let a = c.args in
    scanned-went (visibility-word a.words.now a.at) refl c.scan_below.ensures c.in_ok-value.was (laid_as (sym (visible c.if-value-ne-PUB.false)) (laid-counted refl c.count_few.ensures))

pub returns-in_err-value : goal.returns-in_err-value
returns-in_err-value c =
    let a = c.args in
    went-handed refl c.from_residual.ensures.1 (scanned-refused (visibility-word a.words.now a.at) refl c.scan_below.ensures c.in_err-value.was)
