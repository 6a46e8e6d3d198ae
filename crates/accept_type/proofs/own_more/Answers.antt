use mathlib.Core.Path.{ap}
use Rattle.encoding.specs.declared.Head.TheVariants.{Apply, Function}
use Rattle.encoding.specs.Reading.{read_word}
use Rattle.encoding.proofs.Reading.{handed-on, read-got, read-stop}
use Rattle.text_measure.specs.Lengths.{worded}
use Rattle.text_measure.proofs.Scans.{counted-more}
use Rattle.accept_type.specs.Walks.{node, none}
use native.Mathlib.Omega.{arith}
use Rattle.accept_type.proofs.own_more.Goals as goal

pub returns : goal.returns
returns c =
    let a = c.args in
    let e = read-got (read_word a.words.now a.at) c.scan_word.ensures c.in_ok-value.was in
    let k = c.cut-kids.ensures in (
      node {h = Apply _} (ap (worded Apply) e) (counted-more k.0) (omega arith) (omega (arith, k.1)),
      node {h = Function _} (ap (worded Function) e) (counted-more k.0) (omega arith) (omega (arith, k.1)),
    )

pub returns-in_err-value : goal.returns-in_err-value
returns-in_err-value c =
    let a = c.args in
    let e = read-stop (read_word a.words.now a.at) c.scan_word.ensures c.in_err-value.was in
    rw (handed-on c.from_residual.ensures.1) (none (ap (worded Apply) e), none (ap (worded Function) e))
