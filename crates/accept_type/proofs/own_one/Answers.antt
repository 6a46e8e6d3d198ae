use mathlib.Core.Path.{refl, ap}
use Rattle.encoding.specs.declared.Head.TheVariants.{ArrayOf, Meta}
use Rattle.encoding.specs.Reading.{read_below}
use Rattle.encoding.proofs.Reading.{handed-on, read-got, read-stop}
use Rattle.text_measure.specs.Lengths.{worded, exact}
use Rattle.accept_type.specs.Walks.{node, none}
use native.Mathlib.Omega.{arith}
use Rattle.accept_type.proofs.own_one.Goals as goal

pub returns : goal.returns
returns c =
    let a = c.args in
    let e = read-got (read_below a.bound a.words.now a.at) c.scan_below.ensures c.in_ok-next.was in
    (node (ap (worded ArrayOf) e) (exact refl) (omega arith) (omega arith), node (ap (worded Meta) e) (exact refl) (omega arith) (omega arith))

pub returns-in_err-next : goal.returns-in_err-next
returns-in_err-next c =
    let a = c.args in
    let e = read-stop (read_below a.bound a.words.now a.at) c.scan_below.ensures c.in_err-next.was in
    rw (handed-on c.from_residual.ensures.1) (none (ap (worded ArrayOf) e), none (ap (worded Meta) e))
