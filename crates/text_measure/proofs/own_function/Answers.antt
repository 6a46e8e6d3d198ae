use mathlib.Core.Path.{refl, ap}
use Rattle.encoding.specs.declared.Head.TheVariants.{Function}
use Rattle.encoding.specs.Reading.{read_word}
use Rattle.text_measure.specs.Lengths.{own_length}
use Rattle.text_measure.proofs.Scans.{worded-got, worded-stop, counted-more, scanned-counted, scanned-stop}
use Prim.Native.Nat.{◌+◌}
use native.Mathlib.Omega.{arith}
use Rattle.encoding.proofs.Reading.{handed-on}
use Rattle.text_measure.proofs.own_function.Goals as goal

pub returns : goal.returns
unfolding own_length
returns c =
    let a = c.args in
    let e = worded-got Function (read_word a.words.now a.at) c.scan_word.ensures c.in_ok-value.was in
    let k = c.cut.ensures in
    scanned-counted a.words.now a.pairs.now (Function _) e c.own_node.ensures (counted-more k.0) (ap (λ n. 20 + n) c.commas_length.ensures) refl (omega arith) (omega (arith, k.1)) (let h = rw c.in_ok-value.was at c.scan_word.type_inv in omega (arith, c.commas_length.ensures))

pub returns-in_err-value : goal.returns-in_err-value
returns-in_err-value c =
    let a = c.args in
    scanned-stop a.words.now a.pairs.now (worded-stop Function (read_word a.words.now a.at) c.scan_word.ensures c.in_err-value.was) (handed-on c.from_residual.ensures.1)
