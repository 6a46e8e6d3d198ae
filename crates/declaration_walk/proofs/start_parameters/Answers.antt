use Rattle.declaration_walk.proofs.Scans.{two-got, two-stop}
use Rattle.encoding.proofs.Reading.{handed-on}
use Rattle.declaration_walk.specs.Walks.{read_entry}
use Rattle.declaration_walk.proofs.start_parameters.Goals as goal

pub returns : goal.returns
returns c =
    rw (two-got (read_entry c.args.bound c.args.words.now c.args.at) c.scan_entry.ensures c.in_ok-second.was)

pub returns-in_err-second : goal.returns-in_err-second
returns-in_err-second c =
    rw (handed-on c.from_residual.ensures.1, two-stop (read_entry c.args.bound c.args.words.now c.args.at) c.scan_entry.ensures c.in_err-second.was)
