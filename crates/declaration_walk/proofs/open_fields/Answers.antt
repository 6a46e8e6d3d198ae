use Rattle.declaration_walk.proofs.Scans.{two-got, two-stop}
use Rattle.declaration_walk.specs.Walks.{fields, no_fields, read_entry}
use Rattle.encoding.proofs.Reading.{handed-on}
use Rattle.declaration_walk.proofs.open_fields.Goals as goal

pub returns : goal.returns
returns c =
    fields c.requires.0 c.requires.1 c.requires.2 (two-got (read_entry 2 c.args.words.now c.args.walk.place) c.scan_entry.ensures c.in_ok-kind.was)

pub returns-in_err-kind : goal.returns-in_err-kind
returns-in_err-kind c =
    rw (handed-on c.from_residual.ensures.1) (no_fields c.requires.0 c.requires.1 c.requires.2 (two-stop (read_entry 2 c.args.words.now c.args.walk.place) c.scan_entry.ensures c.in_err-kind.was))
