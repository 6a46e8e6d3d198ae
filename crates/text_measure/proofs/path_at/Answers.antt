use Rattle.encoding.specs.Reading.{read_below, read_word}
use Rattle.encoding.specs.Heads.{read_path}
use Rattle.encoding.proofs.Reading.{handed-on, read-got, read-stop}
use Rattle.encoding.proofs.Inside.{word-there}
use Rattle.text_measure.proofs.Scans.{path-unread, path-as, path_names}
use native.Mathlib.Omega.{arith}
use Rattle.text_measure.proofs.path_at.Goals as goal

pub measure_names-requires : goal.measure_names-requires
measure_names-requires c =
    let s = c in
    let d = read-got (read_word s.args.words.now _) c.scan_word.ensures c.in_ok-count.was in
    let k = word-there s.args.words.now _ d in
    (s.requires.0, s.requires.1, omega (arith, k.next, k.here))

pub returns : goal.returns
returns c =
    let a = c.args in
    let e = read-got (read_below 3 a.words.now a.at) c.scan_below.ensures c.in_ok-root.was in
    let d = read-got (read_word a.words.now _) c.scan_word.ensures c.in_ok-count.was in
    path-as a.words.now a.pairs.now (path_names a.bound a.words.now a.at e d) c.measure_names.ensures

pub returns-in_err-count : goal.returns-in_err-count
unfolding read_path
returns-in_err-count c =
    let a = c.args in
    let e = read-got (read_below 3 a.words.now a.at) c.scan_below.ensures c.in_ok-root.was in
    let d = read-stop (read_word a.words.now _) c.scan_word.ensures c.in_err-count.was in
    path-unread a.words.now a.pairs.now (rw (e, d)) (handed-on c.from_residual-in_err-count.ensures.1)

pub returns-in_err-root : goal.returns-in_err-root
unfolding read_path
returns-in_err-root c =
    let a = c.args in
    let e = read-stop (read_below 3 a.words.now a.at) c.scan_below.ensures c.in_err-root.was in
    path-unread a.words.now a.pairs.now (rw e) (handed-on c.from_residual.ensures.1)
