use native.Mathlib.Omega.{arith}
use mathlib.Core.Path.{refl}
use Rattle.encoding.specs.declared.Head.TheVariants.{Apply}
use Rattle.encoding.specs.Reading.{read_word}
use Rattle.sound_type.specs.Judging.{words_sound}
use borrow.Author.Tests.{lt-ltb}
use Rattle.text_measure.proofs.Scans.{worded-got, worded-none, worded-stop, counted-more}
use Rattle.encoding.proofs.Reading.{handed-on}
use Rattle.sound_type.proofs.Scans.{counted-level, scanned-bare, scanned-node, scanned-stop}
use Rattle.sound_type.proofs.own_apply.Goals as goal

pub returns-then-value-eq0 : goal.returns-then-value-eq0
returns-then-value-eq0 c =
    let a = c.args in
    let e = worded-none Apply (read_word a.words.now a.at) c.scan_word.ensures c.in_ok-value.was c.if-value-eq0.true in
    scanned-bare a.words.now a.pairs.now a.text.now a.ask e c.own_bare.ensures

pub returns : goal.returns
unfolding words_sound
returns c =
    let a = c.args in
    let e = worded-got Apply (read_word a.words.now a.at) c.scan_word.ensures c.in_ok-value.was in
    let k = c.cut.ensures in
    scanned-node a.words.now a.pairs.now a.text.now a.ask (Apply _) e c.own_node.ensures refl (lt-ltb 0 c.in_ok-value.value (omega (arith, c.if-value-eq0.false))) refl (omega arith) (counted-level c.cut.result 1 (omega arith) (counted-more k.0)) (omega (arith, k.1))

pub returns-in_err-value : goal.returns-in_err-value
returns-in_err-value c =
    let a = c.args in
    scanned-stop a.words.now a.pairs.now a.text.now a.ask (worded-stop Apply (read_word a.words.now a.at) c.scan_word.ensures c.in_err-value.was) (handed-on c.from_residual.ensures.1)
