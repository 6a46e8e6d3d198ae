use mathlib.Core.Path.{refl}
use Rattle.encoding.specs.declared.Head.TheVariants.{Name}
use Rattle.encoding.specs.Reading.{read_below}
use Rattle.text_measure.specs.Lengths.{own_length}
use Rattle.text_measure.proofs.Scans.{below-got, worded-got, worded-stop, scanned-leaf, scanned-stop}
use Rattle.text_measure.proofs.Lengths.{name-fits}
use native.Mathlib.Omega.{arith}
use Rattle.encoding.proofs.Reading.{handed-on}
use Rattle.text_measure.proofs.own_name.Goals as goal

pub name_length-bytes-requires : goal.name_length-bytes-requires
name_length-bytes-requires c =
    let s = c in
    let a = s.args in
    omega (arith, s.requires, (below-got a.bound a.words.now a.at c.scan_below.ensures c.in_ok-value.was).below)

pub returns : goal.returns
unfolding own_length
returns c =
    let a = c.args in
    let e = worded-got Name (read_below a.bound a.words.now a.at) c.scan_below.ensures c.in_ok-value.was in
    scanned-leaf a.words.now a.pairs.now (Name _) e c.own_leaf.ensures refl c.name_length-bytes.ensures (omega (arith, name-fits a.pairs.now (λ i. omega (arith, c.shared_slice_known-2-1.given i)) _ _ c.name_length-bytes.ensures))

pub returns-in_err-value : goal.returns-in_err-value
returns-in_err-value c =
    let a = c.args in
    scanned-stop a.words.now a.pairs.now (worded-stop Name (read_below a.bound a.words.now a.at) c.scan_below.ensures c.in_err-value.was) (handed-on c.from_residual.ensures.1)
