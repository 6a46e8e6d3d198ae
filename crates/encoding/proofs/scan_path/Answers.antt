use Rattle.encoding.specs.Reading.{read_below, read_word, read_names}
use Rattle.encoding.specs.Heads.{read_path}
use Rattle.encoding.proofs.Reading.{handed-on, read-got, read-stop, scan-got, scan-stop}
use Rattle.encoding.proofs.scan_path.Goals as goal

pub returns : goal.returns
unfolding read_path
returns c =
    let a = c.args in
    let root = read-got (read_below 3 a.words.now a.at) c.scan_below.ensures c.in_ok-root.was in
    let count = read-got (read_word a.words.now _) c.scan_word.ensures c.in_ok-count.was in
    let names = (scan-got (read_names a.bound a.words.now _ _) c.scan_names.ensures c.in_ok-next.was).reads in
    rw (root, count, names)

pub returns-in_err-next : goal.returns-in_err-next
unfolding read_path
returns-in_err-next c =
    let a = c.args in
    let root = read-got (read_below 3 a.words.now a.at) c.scan_below.ensures c.in_ok-root.was in
    let count = read-got (read_word a.words.now _) c.scan_word.ensures c.in_ok-count.was in
    let names = scan-stop (read_names a.bound a.words.now _ _) c.scan_names.ensures c.in_err-next.was in
    rw (handed-on c.from_residual-in_err-next.ensures.1, root, count, names)

pub returns-in_err-count : goal.returns-in_err-count
unfolding read_path
returns-in_err-count c =
    let a = c.args in
    let root = read-got (read_below 3 a.words.now a.at) c.scan_below.ensures c.in_ok-root.was in
    let count = read-stop (read_word a.words.now _) c.scan_word.ensures c.in_err-count.was in
    rw (handed-on c.from_residual-in_err-count.ensures.1, root, count)

pub returns-in_err-root : goal.returns-in_err-root
unfolding read_path
returns-in_err-root c =
    let a = c.args in
    let root = read-stop (read_below 3 a.words.now a.at) c.scan_below.ensures c.in_err-root.was in
    rw (handed-on c.from_residual.ensures.1, root)
