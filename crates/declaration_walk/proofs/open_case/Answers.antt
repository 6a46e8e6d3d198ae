use Rattle.declaration_walk.proofs.Scans.{two-got, two-stop}
use Rattle.declaration_walk.specs.Walks.{case, no-case, read_two}
use Rattle.encoding.proofs.Reading.{handed-on}
use Rattle.declaration_walk.proofs.open_case.Goals as goal

pub returns : goal.returns
returns c =
    case c.requires.0 c.requires.1 c.requires.2 c.requires.3 c.requires.4 (two-got (read_two c.args.bound c.args.bound c.args.words.now c.args.walk.place) c.scan_two.ensures c.in_ok-place.was)

pub returns-in_err-place : goal.returns-in_err-place
returns-in_err-place c =
    rw (handed-on c.from_residual.ensures.1) (no-case c.requires.0 c.requires.1 c.requires.2 c.requires.3 c.requires.4 (two-stop (read_two c.args.bound c.args.bound c.args.words.now c.args.walk.place) c.scan_two.ensures c.in_err-place.was))
