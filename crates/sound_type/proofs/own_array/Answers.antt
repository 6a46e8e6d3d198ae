use native.Mathlib.Omega.{arith}
use Prim.Native.Nat.{◌+◌}
use mathlib.Core.Path.{refl, sym, ◌∙◌}
use Rattle.encoding.specs.declared.Head.TheVariants.{ArrayOf}
use Rattle.encoding.specs.Reading.{read_below}
use Rattle.text_measure.proofs.Scans.{below-got, worded-got, worded-stop}
use Rattle.encoding.proofs.Reading.{handed-on}
use Rattle.sound_type.proofs.Scans.{scanned-array, unsound-array, scanned-stop}
use Rattle.sound_type.proofs.own_array.Goals as goal

pub size_fits-requires : goal.size_fits-requires
size_fits-requires c =
    let a = c.args in
    (omega (arith, c.requires.0, (below-got (a.bound + 1) a.words.now a.at c.scan_below.ensures c.in_ok-value.was).below), c.requires.1, c.requires.2)

pub returns-then-size_fits : goal.returns-then-size_fits
returns-then-size_fits c =
    let a = c.args in
    let e = worded-got ArrayOf (read_below (a.bound + 1) a.words.now a.at) c.scan_below.ensures c.in_ok-value.was in
    (scanned-array a.words.now a.pairs.now a.text.now a.ask _ e c.own_node.ensures (sym c.size_fits.ensures.0 ∙ c.if-size_fits.true), c.size_fits.ensures.1)

pub returns : goal.returns
returns c =
    let a = c.args in
    let e = worded-got ArrayOf (read_below (a.bound + 1) a.words.now a.at) c.scan_below.ensures c.in_ok-value.was in
    (unsound-array a.words.now a.pairs.now a.text.now a.ask _ e refl (sym c.size_fits.ensures.0 ∙ c.if-size_fits.false), c.size_fits.ensures.1)

pub returns-in_err-value : goal.returns-in_err-value
returns-in_err-value c =
    let a = c.args in
    (scanned-stop a.words.now a.pairs.now a.text.now a.ask (worded-stop ArrayOf (read_below (a.bound + 1) a.words.now a.at) c.scan_below.ensures c.in_err-value.was) (handed-on c.from_residual.ensures.1), c.requires.2)
