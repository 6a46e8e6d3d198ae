use Rattle.encoding.specs.Reading.{read_below}
use Rattle.encoding.specs.Heads.{read_path}
use Rattle.encoding.proofs.Reading.{read-got, read-stop}
use Rattle.encoding.proofs.Reading.{handed-on}
use Rattle.accept_declaration.proofs.scan_use.Goals as goal

pub returns : goal.returns
returns c =
    let a = c.args in
    rw (read-got (read_below 2 a.words.now a.at) c.scan_below.ensures c.in_ok-next.was, read-got (read_path a.bound a.words.now _) c.scan_path.ensures c.in_ok-end.was)

pub returns-in_err-end : goal.returns-in_err-end
returns-in_err-end c =
    let a = c.args in
    rw (handed-on c.from_residual-in_err-end.ensures.1, read-got (read_below 2 a.words.now a.at) c.scan_below.ensures c.in_ok-next.was, read-stop (read_path a.bound a.words.now _) c.scan_path.ensures c.in_err-end.was)

pub returns-in_err-next : goal.returns-in_err-next
returns-in_err-next c =
    let a = c.args in
    rw (handed-on c.from_residual.ensures.1, read-stop (read_below 2 a.words.now a.at) c.scan_below.ensures c.in_err-next.was)
