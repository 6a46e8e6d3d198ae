use Rattle.encoding.specs.declared.Head.TheVariants.{Tuple}
use Rattle.encoding.specs.Reading.{read_word}
use Rattle.text_measure.proofs.Scans.{worded-got, worded-stop, counted-some}
use Rattle.accept_type.specs.Walks.{leaf, node, none}
use native.Mathlib.Omega.{arith}
use Rattle.encoding.proofs.Reading.{handed-on}
use Rattle.accept_type.proofs.own_tuple.Goals as goal

pub returns-then-value-eq0 : goal.returns-then-value-eq0
returns-then-value-eq0 c =
    let a = c.args in
    let e = worded-got Tuple (read_word a.words.now a.at) c.scan_word.ensures c.in_ok-value.was in
    leaf {h = Tuple _} e c.if-value-eq0.true

pub returns : goal.returns
returns c =
    let a = c.args in
    let e = worded-got Tuple (read_word a.words.now a.at) c.scan_word.ensures c.in_ok-value.was in
    let k = c.cut-kids.ensures in
    let z = c.if-value-eq0.false in
    node {h = Tuple _} e k.0 (counted-some k.0 (omega arith)) (omega (arith, k.1))

pub returns-in_err-value : goal.returns-in_err-value
returns-in_err-value c =
    let a = c.args in
    rw (handed-on c.from_residual.ensures.1) (none (worded-stop Tuple (read_word a.words.now a.at) c.scan_word.ensures c.in_err-value.was))
