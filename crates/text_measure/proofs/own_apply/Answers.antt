use mathlib.Core.Path.{refl}
use Rattle.encoding.specs.declared.Head.TheVariants.{Apply}
use Rattle.encoding.specs.Reading.{read_word}
use Rattle.text_measure.specs.Lengths.{own_length}
use Rattle.text_measure.proofs.Scans.{worded-got, worded-stop, counted-more, scanned-counted, scanned-stop}
use native.Mathlib.Omega.{arith}
use Rattle.encoding.proofs.Reading.{handed-on}
use Rattle.text_measure.proofs.own_apply.Goals as goal

pub returns : goal.returns
unfolding own_length
returns c =
    let a = c.args in
    let e = worded-got Apply (read_word a.words.now a.at) c.scan_word.ensures c.in_ok-value.was in
    let k = c.cut.ensures in
    scanned-counted a.words.now a.pairs.now (Apply _) e c.own_node.ensures (counted-more k.0) refl refl (omega arith) (omega (arith, k.1)) (omega arith)

pub returns-in_err-value : goal.returns-in_err-value
returns-in_err-value c =
    let a = c.args in
    scanned-stop a.words.now a.pairs.now (worded-stop Apply (read_word a.words.now a.at) c.scan_word.ensures c.in_err-value.was) (handed-on c.from_residual.ensures.1)
