use mathlib.Core.Path.{ap}
use Rattle.encoding.specs.Reading.{read_below, read_word}
use Rattle.encoding.specs.Heads.{read_path, path_head}
use Rattle.encoding.proofs.Reading.{handed-on, read-got, read-stop}
use Rattle.encoding.proofs.Inside.{word-there}
use Rattle.text_measure.specs.Lengths.{head_of_path}
use Rattle.text_measure.proofs.Scans.{path_names}
use Rattle.accept_type.proofs.Scans.{scanned-stop, scanned-as}
use native.Mathlib.Omega.{arith}
use Rattle.accept_type.proofs.own_path.Goals as goal

pub own_names-requires : goal.own_names-requires
own_names-requires c =
    let s = c in
    let d = read-got (read_word s.args.words.now _) c.scan_word.ensures c.in_ok-count.was in
    let k = word-there s.args.words.now _ d in
    (s.requires, omega (arith, k.next, k.here))

pub returns : goal.returns
unfolding path_head
returns c =
    let a = c.args in
    let e = read-got (read_below 3 a.words.now a.at) c.scan_below.ensures c.in_ok-root.was in
    let d = read-got (read_word a.words.now _) c.scan_word.ensures c.in_ok-count.was in
    scanned-as (ap head_of_path (path_names a.bound a.words.now a.at e d)) c.own_names.ensures

pub returns-in_err-count : goal.returns-in_err-count
unfolding path_head read_path
returns-in_err-count c =
    let a = c.args in
    let e = read-got (read_below 3 a.words.now a.at) c.scan_below.ensures c.in_ok-root.was in
    let d = read-stop (read_word a.words.now _) c.scan_word.ensures c.in_err-count.was in
    scanned-stop (rw (e, d)) (handed-on c.from_residual-in_err-count.ensures.1)

pub returns-in_err-root : goal.returns-in_err-root
unfolding path_head read_path
returns-in_err-root c =
    let a = c.args in
    scanned-stop (rw (read-stop (read_below 3 a.words.now a.at) c.scan_below.ensures c.in_err-root.was)) (handed-on c.from_residual.ensures.1)
