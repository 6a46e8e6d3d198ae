use mathlib.Core.Path.{ap, sym}
use Rattle.encoding.specs.Heads.{read_path}
use Rattle.text_measure.proofs.Scans.{path-as}
use Rattle.text_measure.proofs.Measured.{path-measured}
use Rattle.text_measure.proofs.measure_path.Goals as goal

pub returns : goal.returns
returns c =
    let s = c in
    let a = s.args in
    path-measured a.words.now a.pairs.now a.text.now s.requires.0 a.at (path-as a.words.now a.pairs.now (ap (λ n. read_path n a.words.now a.at) (sym c.name_count.ensures)) c.path_at.ensures)
