use Rattle.encoding.specs.Heads.{read_path, path_head}
use Rattle.encoding.proofs.Reading.{handed-on, read-got, read-stop}
use Rattle.encoding.proofs.scan_path_head.Goals as goal

pub returns : goal.returns
unfolding path_head
returns c =
    let a = c.args in
    rw (read-got (read_path a.bound a.words.now a.at) c.scan_path.ensures c.in_ok-path.was)

pub returns-in_err-path : goal.returns-in_err-path
unfolding path_head
returns-in_err-path c =
    let a = c.args in
    rw (handed-on c.from_residual.ensures.1, read-stop (read_path a.bound a.words.now a.at) c.scan_path.ensures c.in_err-path.was)
