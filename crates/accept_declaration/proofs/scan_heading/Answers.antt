use Rattle.encoding.specs.Tables.{name_count}
use Rattle.encoding.specs.Reading.{read_below}
use Rattle.encoding.proofs.Reading.{scan-stop, read-got, read-stop}
use Rattle.declaration_walk.specs.Walks.{read_attributes}
use Rattle.declaration_walk.proofs.Scans.{end-got}
use mathlib.Core.Path.{◌∙◌}
use Rattle.encoding.proofs.Reading.{handed-on}
use Rattle.accept_declaration.proofs.scan_heading.Goals as goal

pub returns : goal.returns
returns c =
    let a = c.args in
    c.scan_signature.ensures ∙ rw (read-got (read_below (name_count a.pairs.now) a.words.now a.at) (rw c.name_count-bound.ensures at c.scan_below.ensures) c.in_ok-next.was, (end-got (read_attributes (name_count a.pairs.now) a.words.now _) (rw c.name_count-bound.ensures at c.scan_attributes.ensures) c.in_ok-end.was).reads)

pub returns-in_err-end : goal.returns-in_err-end
returns-in_err-end c =
    let a = c.args in
    rw (handed-on c.from_residual-in_err-end.ensures.1, read-got (read_below (name_count a.pairs.now) a.words.now a.at) (rw c.name_count-bound.ensures at c.scan_below.ensures) c.in_ok-next.was, scan-stop (read_attributes (name_count a.pairs.now) a.words.now _) (rw c.name_count-bound.ensures at c.scan_attributes.ensures) c.in_err-end.was)

pub returns-in_err-next : goal.returns-in_err-next
returns-in_err-next c =
    let a = c.args in
    rw (handed-on c.from_residual.ensures.1, read-stop (read_below (name_count a.pairs.now) a.words.now a.at) (rw c.name_count-bound.ensures at c.scan_below.ensures) c.in_err-next.was)
