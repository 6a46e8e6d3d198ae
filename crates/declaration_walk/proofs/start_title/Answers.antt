use Rattle.encoding.proofs.Reading.{handed-on, scan-stop, read-got, read-stop}
use Rattle.encoding.specs.Reading.{read_below}
use Rattle.declaration_walk.proofs.Scans.{end-got}
use Rattle.declaration_walk.specs.Walks.{read_attributes}
use mathlib.Core.Path.{◌∙◌}
use Rattle.declaration_walk.proofs.start_title.Goals as goal

pub returns : goal.returns
returns c =
    c.start_parameters.ensures ∙ rw (read-got (read_below c.args.bound c.args.words.now c.args.at) c.scan_below.ensures c.in_ok-next.was, (end-got (read_attributes c.args.bound c.args.words.now _) c.scan_attributes.ensures c.in_ok-end.was).reads)

pub returns-in_err-end : goal.returns-in_err-end
returns-in_err-end c =
    rw (handed-on c.from_residual-in_err-end.ensures.1, read-got (read_below c.args.bound c.args.words.now c.args.at) c.scan_below.ensures c.in_ok-next.was, scan-stop (read_attributes c.args.bound c.args.words.now _) c.scan_attributes.ensures c.in_err-end.was)

pub returns-in_err-next : goal.returns-in_err-next
returns-in_err-next c =
    rw (handed-on c.from_residual.ensures.1, read-stop (read_below c.args.bound c.args.words.now c.args.at) c.scan_below.ensures c.in_err-next.was)
