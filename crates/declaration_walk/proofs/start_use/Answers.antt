use Rattle.encoding.proofs.Reading.{handed-on, read-got, read-stop}
use Rattle.encoding.specs.Heads.{read_path}
use Rattle.encoding.specs.Reading.{read_below}
use Rattle.declaration_walk.specs.Walks.{read_using}
use Rattle.declaration_walk.proofs.start_use.Goals as goal

pub returns : goal.returns
unfolding read_using
returns c =
    rw (read-got (read_below 2 c.args.words.now c.args.at) c.scan_below.ensures c.in_ok-next.was, read-got (read_path c.args.bound c.args.words.now _) c.scan_path.ensures c.in_ok-end.was)

pub returns-in_err-end : goal.returns-in_err-end
unfolding read_using
returns-in_err-end c =
    rw (handed-on c.from_residual-in_err-end.ensures.1, read-got (read_below 2 c.args.words.now c.args.at) c.scan_below.ensures c.in_ok-next.was, read-stop (read_path c.args.bound c.args.words.now _) c.scan_path.ensures c.in_err-end.was)

pub returns-in_err-next : goal.returns-in_err-next
unfolding read_using
returns-in_err-next c =
    rw (handed-on c.from_residual.ensures.1, read-stop (read_below 2 c.args.words.now c.args.at) c.scan_below.ensures c.in_err-next.was)
