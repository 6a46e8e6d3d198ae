use Rattle.declaration_walk.proofs.Scans.{two-got, two-stop}
use Rattle.declaration_walk.specs.Walks.{no-parameter, parameter, read_entry}
use Rattle.encoding.proofs.Reading.{handed-on}
use Rattle.declaration_walk.proofs.open_parameter.Goals as goal

pub returns : goal.returns
returns c =
    parameter c.requires.0 c.requires.1 (two-got (read_entry c.args.bound c.args.words.now c.args.walk.place) c.scan_entry.ensures c.in_ok-types.was)

pub returns-in_err-types : goal.returns-in_err-types
returns-in_err-types c =
    rw (handed-on c.from_residual.ensures.1) (no-parameter c.requires.0 c.requires.1 (two-stop (read_entry c.args.bound c.args.words.now c.args.walk.place) c.scan_entry.ensures c.in_err-types.was))
