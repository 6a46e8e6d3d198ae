use native.Mathlib.Omega.{arith}
use mathlib.Core.Path.{refl}
use Rattle.encoding.specs.declared.Head.TheVariants.{Meta}
use Rattle.encoding.specs.Reading.{read_below}
use Rattle.text_measure.specs.Lengths.{exact}
use Rattle.text_measure.proofs.Scans.{worded-got, worded-stop}
use Rattle.sound_type.specs.Judging.{words_sound}
use Rattle.encoding.proofs.Reading.{handed-on}
use Rattle.sound_type.proofs.Scans.{scanned-wrapper, scanned-stop}
use Rattle.sound_type.proofs.own_meta.Goals as goal

pub returns : goal.returns
unfolding words_sound
returns c =
    let a = c.args in
    let e = worded-got Meta (read_below 4 a.words.now a.at) c.scan_below.ensures c.in_ok-next.was in
    scanned-wrapper a.words.now a.pairs.now a.text.now a.ask (Meta _) e refl refl refl refl refl (exact refl) refl (omega arith)

pub returns-in_err-next : goal.returns-in_err-next
returns-in_err-next c =
    let a = c.args in
    scanned-stop a.words.now a.pairs.now a.text.now a.ask (worded-stop Meta (read_below 4 a.words.now a.at) c.scan_below.ensures c.in_err-next.was) (handed-on c.from_residual.ensures.1)
