use mathlib.Core.Path.{refl}
use Rattle.encoding.specs.declared.Head.TheVariants.{Meta}
use Rattle.encoding.specs.Reading.{read_below}
use Rattle.text_measure.specs.Lengths.{own_length}
use Rattle.text_measure.proofs.Scans.{worded-got, worded-stop, scanned-node, scanned-stop}
use native.Mathlib.Omega.{arith}
use Rattle.encoding.proofs.Reading.{handed-on}
use Rattle.text_measure.proofs.own_meta.Goals as goal

pub returns : goal.returns
unfolding own_length
returns c =
    let a = c.args in
    let e = worded-got Meta (read_below 4 a.words.now a.at) c.scan_below.ensures c.in_ok-next.was in
    scanned-node a.words.now a.pairs.now (Meta _) e c.own_node.ensures refl (refl) refl (omega arith) (omega arith) (omega arith)

pub returns-in_err-next : goal.returns-in_err-next
returns-in_err-next c =
    let a = c.args in
    scanned-stop a.words.now a.pairs.now (worded-stop Meta (read_below 4 a.words.now a.at) c.scan_below.ensures c.in_err-next.was) (handed-on c.from_residual.ensures.1)
