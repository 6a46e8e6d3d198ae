use mathlib.Core.Path.{refl}
use Rattle.encoding.specs.declared.Head.TheVariants.{Tuple}
use Rattle.encoding.specs.Reading.{read_word}
use Rattle.text_measure.specs.Lengths.{own_length}
use Rattle.text_measure.proofs.Scans.{worded-got, worded-stop, counted-some, scanned-leaf, scanned-counted, scanned-stop}
use native.Mathlib.Omega.{arith}
use Rattle.encoding.proofs.Reading.{handed-on}
use Rattle.text_measure.proofs.own_tuple.Goals as goal

pub returns-then-value-eq0 : goal.returns-then-value-eq0
unfolding own_length
returns-then-value-eq0 c =
    let a = c.args in
    let e = worded-got Tuple (read_word a.words.now a.at) c.scan_word.ensures c.in_ok-value.was in
    let z = c.if-value-eq0.true in
    scanned-leaf a.words.now a.pairs.now (Tuple _) e c.own_leaf.ensures z (omega arith) (omega arith)

pub returns : goal.returns
unfolding own_length
returns c =
    let a = c.args in
    let e = worded-got Tuple (read_word a.words.now a.at) c.scan_word.ensures c.in_ok-value.was in
    let z = c.if-value-eq0.false in
    let k = c.cut.ensures in
    scanned-counted a.words.now a.pairs.now (Tuple _) e c.own_node.ensures k.0 (omega arith) refl (counted-some k.0 (omega arith)) (omega (arith, k.1)) (omega arith)

pub returns-in_err-value : goal.returns-in_err-value
returns-in_err-value c =
    let a = c.args in
    scanned-stop a.words.now a.pairs.now (worded-stop Tuple (read_word a.words.now a.at) c.scan_word.ensures c.in_err-value.was) (handed-on c.from_residual.ensures.1)
