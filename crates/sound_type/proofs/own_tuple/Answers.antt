use native.Mathlib.Omega.{arith}
use mathlib.Core.Path.{refl}
use Rattle.encoding.specs.declared.Head.TheVariants.{Tuple}
use Rattle.encoding.specs.Reading.{read_word}
use Rattle.sound_type.specs.Judging.{words_sound}
use Rattle.text_measure.proofs.Scans.{worded-got, worded-none, worded-stop, counted-some}
use Rattle.encoding.proofs.Reading.{handed-on}
use Rattle.sound_type.proofs.Scans.{counted-behind, scanned-plain, scanned-node, scanned-stop}
use Rattle.sound_type.proofs.own_tuple.Goals as goal

pub returns-then-value-eq0 : goal.returns-then-value-eq0
unfolding words_sound
returns-then-value-eq0 c =
    let a = c.args in
    let e = worded-none Tuple (read_word a.words.now a.at) c.scan_word.ensures c.in_ok-value.was c.if-value-eq0.true in
    scanned-plain a.words.now a.pairs.now a.text.now a.ask (Tuple 0) e c.own_leaf.ensures refl refl refl

pub overflow_sub-cut : goal.overflow_sub-cut
overflow_sub-cut c = omega (arith, counted-some c.cut.ensures.0 (omega (arith, c.if-value-eq0.false)))

pub returns : goal.returns
unfolding words_sound
returns c =
    let a = c.args in
    let e = worded-got Tuple (read_word a.words.now a.at) c.scan_word.ensures c.in_ok-value.was in
    let k = c.cut.ensures in
    let some = counted-some k.0 (omega (arith, c.if-value-eq0.false)) in
    scanned-node a.words.now a.pairs.now a.text.now a.ask (Tuple _) e c.own_node.ensures refl refl refl (omega (arith, some)) (counted-behind c.cut.result some k.0) (omega (arith, k.1))

pub returns-in_err-value : goal.returns-in_err-value
returns-in_err-value c =
    let a = c.args in
    scanned-stop a.words.now a.pairs.now a.text.now a.ask (worded-stop Tuple (read_word a.words.now a.at) c.scan_word.ensures c.in_err-value.was) (handed-on c.from_residual.ensures.1)
