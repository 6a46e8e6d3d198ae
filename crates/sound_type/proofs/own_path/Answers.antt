use native.Mathlib.Omega.{arith}
use mathlib.Core.Path.{ap}
use Rattle.encoding.specs.Reading.{read_word, read_below}
use Rattle.encoding.specs.Tables.{name_count}
use Rattle.encoding.specs.Heads.{read_path, path_head}
use Rattle.encoding.proofs.Reading.{read-got, read-stop, handed-on}
use Rattle.encoding.proofs.Inside.{word-there}
use Rattle.text_measure.specs.Lengths.{head_of_path}
use Rattle.text_measure.proofs.Scans.{path_names}
use Rattle.sound_type.proofs.Scans.{scanned-as, scanned-stop}
use Rattle.sound_type.proofs.Paths.{path-root}
use Rattle.sound_type.proofs.own_path.Goals as goal

pub returns-then-count-eq0 : goal.returns-then-count-eq0
unfolding path_head
returns-then-count-eq0 c =
    let a = c.args in
    let e = read-got (read_below 3 a.words.now a.at) c.scan_below.ensures c.in_ok-root.was in
    let d = read-got (read_word a.words.now _) c.scan_word.ensures c.in_ok-count.was in
    (scanned-as a.words.now a.pairs.now a.text.now a.ask (ap head_of_path (path_names (name_count a.pairs.now) a.words.now a.at e d)) (path-root a.words.now a.pairs.now a.text.now a.ask _ c.if-count-eq0.true c.own_root.ensures), c.requires.1)

pub own_names-requires : goal.own_names-requires
own_names-requires c =
    let a = c.args in
    let d = read-got (read_word a.words.now _) c.scan_word.ensures c.in_ok-count.was in
    let k = word-there a.words.now _ d in
    (c.requires.0, c.requires.1, omega (arith, k.next, k.here), omega (arith, c.if-count-eq0.false), c.requires.2)

pub returns : goal.returns
unfolding path_head
returns c =
    let a = c.args in
    let e = read-got (read_below 3 a.words.now a.at) c.scan_below.ensures c.in_ok-root.was in
    let d = read-got (read_word a.words.now _) c.scan_word.ensures c.in_ok-count.was in
    (scanned-as a.words.now a.pairs.now a.text.now a.ask (ap head_of_path (path_names (name_count a.pairs.now) a.words.now a.at e d)) c.own_names.ensures.0, c.own_names.ensures.1)

pub returns-in_err-count : goal.returns-in_err-count
unfolding path_head read_path
returns-in_err-count c =
    let a = c.args in
    let e = read-got (read_below 3 a.words.now a.at) c.scan_below.ensures c.in_ok-root.was in
    let d = read-stop (read_word a.words.now _) c.scan_word.ensures c.in_err-count.was in
    (scanned-stop a.words.now a.pairs.now a.text.now a.ask (rw (e, d)) (handed-on c.from_residual-in_err-count.ensures.1), c.requires.1)

pub returns-in_err-root : goal.returns-in_err-root
unfolding path_head read_path
returns-in_err-root c =
    let a = c.args in
    (scanned-stop a.words.now a.pairs.now a.text.now a.ask (rw (read-stop (read_below 3 a.words.now a.at) c.scan_below.ensures c.in_err-root.was)) (handed-on c.from_residual.ensures.1), c.requires.1)
