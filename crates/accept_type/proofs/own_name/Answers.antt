use mathlib.Core.Path.{refl}
use Rattle.encoding.specs.declared.Head.TheVariants.{Name}
use Rattle.encoding.specs.Reading.{read_below}
use Rattle.text_measure.proofs.Scans.{worded-got, worded-stop}
use Rattle.accept_type.specs.Walks.{leaf, none}
use Rattle.encoding.proofs.Reading.{handed-on}
use Rattle.accept_type.proofs.own_name.Goals as goal

pub returns : goal.returns
returns c =
    let a = c.args in
    leaf (worded-got Name (read_below a.bound a.words.now a.at) c.scan_below.ensures c.in_ok-next.was) refl

pub returns-in_err-next : goal.returns-in_err-next
returns-in_err-next c =
    let a = c.args in
    rw (handed-on c.from_residual.ensures.1) (none (worded-stop Name (read_below a.bound a.words.now a.at) c.scan_below.ensures c.in_err-next.was))
