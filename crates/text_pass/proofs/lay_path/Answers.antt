use mathlib.Core.Path.{refl, sym}
use Rattle.encoding.specs.Tables.{name_bytes, name_count}
use Rattle.encoding.specs.Heads.{read_path}
use Rattle.encoding.proofs.Inside.{path-lies}
use Rattle.encoding.proofs.Reading.{map-got, map-stop}
use Rattle.text_measure.proofs.Measured.{measured-path, unmeasured-path}
use Rattle.text_pass.specs.Passes.{came}
use Rattle.text_pass.proofs.Passes.{came-bytes, ready-as, ready-bytes, stops-here, went-as, went-handed}
use Rattle.text_pass.proofs.lay_path.Goals as goal

pub lay_known_path-requires : goal.lay_known_path-requires
lay_known_path-requires c =
    let s = c in
    let a = s.args in
    let m = measured-path a.words.now (name_bytes a.pairs.now a.text.now) (read_path (name_count a.pairs.now) a.words.now a.at) c.measure_path.ensures c.in_ok-path.was in
    (s.requires.0, (path-lies _ a.words.now a.at m.reads).own, m.size, ready-bytes (ready-as (map-got _ m.reads) s.requires.1))

pub returns : goal.returns
returns c =
    let a = c.args in
    let m = measured-path a.words.now (name_bytes a.pairs.now a.text.now) (read_path (name_count a.pairs.now) a.words.now a.at) c.measure_path.ensures c.in_ok-path.was in
    went-as (sym (map-got _ m.reads)) (came (came-bytes _ c.lay_known_path.ensures))

pub returns-in_err-path : goal.returns-in_err-path
returns-in_err-path c =
    let a = c.args in
    went-handed refl c.from_residual.ensures.1 (stops-here (map-stop _ (unmeasured-path a.words.now (name_bytes a.pairs.now a.text.now) (read_path (name_count a.pairs.now) a.words.now a.at) c.measure_path.ensures c.in_err-path.was)))
