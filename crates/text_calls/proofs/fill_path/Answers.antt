use native.Mathlib.Omega.{arith}
use lib.ListN.{length}
use Rattle.rast.specs.ToString.{Path-to_string}
use Rattle.encoding.specs.Tables.{name_bytes, name_count}
use Rattle.encoding.specs.Reading.{whole}
use Rattle.encoding.specs.Heads.{read_path}
use Rattle.encoding.specs.Types.{path_of}
use Rattle.encoding.proofs.Inside.{path-lies}
use Rattle.encoding.proofs.Answers.{map-twice, filled-stop, filled-left, filled-short, filled-done}
use Rattle.encoding.proofs.Reading.{handed-on}
use Rattle.text_measure.proofs.Measured.{measured-path, unmeasured-path}
use Rattle.text_calls.proofs.fill_path.Goals as goal

pub returns-then-next-words : goal.returns-then-next-words
returns-then-next-words c =
    let a = c.args in
    let name = name_bytes a.pairs.now a.text.now in
    let x = read_path (name_count a.pairs.now) a.words.now 0 in
    let m = measured-path a.words.now name x c.measure_path.ensures c.in_ok-path.was in
    rw (map-twice Path-to_string (path_of a.words.now name) (whole (length a.words.now) x)) (filled-left a.out.now _ (length a.words.now) x m.reads c.if-next-words.true)

pub returns-then-out-size : goal.returns-then-out-size
returns-then-out-size c =
    let a = c.args in
    let name = name_bytes a.pairs.now a.text.now in
    let x = read_path (name_count a.pairs.now) a.words.now 0 in
    let m = measured-path a.words.now name x c.measure_path.ensures c.in_ok-path.was in
    rw (map-twice Path-to_string (path_of a.words.now name) (whole (length a.words.now) x)) (filled-short a.out.now _ (length a.words.now) x m.reads c.if-next-words.false (omega (arith, c.if-out-size.true, m.size)))

pub put_path-requires : goal.put_path-requires
put_path-requires c =
    let a = c.args in
    let m = measured-path a.words.now (name_bytes a.pairs.now a.text.now) (read_path (name_count a.pairs.now) a.words.now 0) c.measure_path.ensures c.in_ok-path.was in
    ((path-lies _ _ _ m.reads).own, c.requires.0, omega (arith, c.if-out-size.false, m.size))

pub returns : goal.returns
returns c =
    let a = c.args in
    let name = name_bytes a.pairs.now a.text.now in
    let x = read_path (name_count a.pairs.now) a.words.now 0 in
    let m = measured-path a.words.now name x c.measure_path.ensures c.in_ok-path.was in
    rw (map-twice Path-to_string (path_of a.words.now name) (whole (length a.words.now) x)) (filled-done a.out.now _ (length a.words.now) x _ m.reads c.if-next-words.false (omega (arith, c.if-out-size.false, m.size)) m.size c.put_path.ensures.bytes)

pub returns-in_err-path : goal.returns-in_err-path
returns-in_err-path c =
    let a = c.args in
    let name = name_bytes a.pairs.now a.text.now in
    let x = read_path (name_count a.pairs.now) a.words.now 0 in
    rw (handed-on c.from_residual.ensures.1, map-twice Path-to_string (path_of a.words.now name) (whole (length a.words.now) x)) (filled-stop a.out.now _ (length a.words.now) x (unmeasured-path a.words.now name x c.measure_path.ensures c.in_err-path.was))
