use native.Mathlib.Omega.{arith}
use mathlib.Core.Path.{refl}
use Rattle.encoding.specs.declared.Head.TheVariants.{Function}
use Rattle.encoding.specs.Reading.{read_word}
use Rattle.text_measure.specs.Lengths.{exact}
use Rattle.sound_type.specs.Judging.{words_sound}
use borrow.Author.Tests.{ne_eqb}
use Rattle.text_measure.proofs.Scans.{worded-got, worded-none, worded-stop, counted-more}
use Rattle.encoding.proofs.Reading.{handed-on}
use Rattle.sound_type.proofs.Scans.{counted-level, scanned-node, scanned-stop}
use Rattle.sound_type.proofs.own_function.Goals as goal

pub returns-then-value-eq0 : goal.returns-then-value-eq0
unfolding words_sound
returns-then-value-eq0 c =
    let a = c.args in
    let e = worded-none Function (read_word a.words.now a.at) c.scan_word.ensures c.in_ok-value.was c.if-value-eq0.true in
    scanned-node a.words.now a.pairs.now a.text.now a.ask (Function 0) {l = 3} e c.own_node.ensures refl refl refl refl (exact refl) (omega arith)

pub returns : goal.returns
unfolding words_sound
returns c =
    let a = c.args in
    let e = worded-got Function (read_word a.words.now a.at) c.scan_word.ensures c.in_ok-value.was in
    let k = c.cut.ensures in
    scanned-node a.words.now a.pairs.now a.text.now a.ask (Function _) e c.own_node-2.ensures refl refl (rw (ne_eqb _ 0 c.if-value-eq0.false)) (omega arith) (counted-level c.cut.result 3 (omega arith) (counted-more k.0)) (omega (arith, k.1))

pub returns-in_err-value : goal.returns-in_err-value
returns-in_err-value c =
    let a = c.args in
    scanned-stop a.words.now a.pairs.now a.text.now a.ask (worded-stop Function (read_word a.words.now a.at) c.scan_word.ensures c.in_err-value.was) (handed-on c.from_residual.ensures.1)
