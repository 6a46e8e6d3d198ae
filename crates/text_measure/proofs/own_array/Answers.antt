use mathlib.Core.Path.{refl}
use Rattle.encoding.specs.declared.Head.TheVariants.{ArrayOf}
use Rattle.encoding.specs.Reading.{read_below}
use Rattle.text_measure.specs.Lengths.{own_length}
use Rattle.text_measure.proofs.Scans.{below-got, worded-got, worded-stop, scanned-node, scanned-stop}
use Prim.Native.Nat.{◌+◌}
use native.Mathlib.Omega.{arith}
use Rattle.encoding.proofs.Reading.{handed-on}
use Rattle.text_measure.proofs.own_array.Goals as goal

pub array_length-bytes-requires : goal.array_length-bytes-requires
array_length-bytes-requires c =
    let s = c in
    let a = s.args in
    omega (arith, s.requires, (below-got (a.bound + 1) a.words.now a.at c.scan_below.ensures c.in_ok-value.was).below)

pub returns : goal.returns
unfolding own_length
returns c =
    let a = c.args in
    let e = worded-got ArrayOf (read_below (a.bound + 1) a.words.now a.at) c.scan_below.ensures c.in_ok-value.was in
    scanned-node a.words.now a.pairs.now (ArrayOf _) e c.own_node.ensures refl c.array_length-bytes.ensures.0 refl (omega arith) (omega arith) c.array_length-bytes.ensures.1

pub returns-in_err-value : goal.returns-in_err-value
returns-in_err-value c =
    let a = c.args in
    scanned-stop a.words.now a.pairs.now (worded-stop ArrayOf (read_below (a.bound + 1) a.words.now a.at) c.scan_below.ensures c.in_err-value.was) (handed-on c.from_residual.ensures.1)
