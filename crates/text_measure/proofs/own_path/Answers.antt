use mathlib.Core.Path.{refl, ap}
use Rattle.encoding.specs.declared.Head.TheVariants.{FromPath}
use Rattle.encoding.specs.Heads.{path_head}
use Rattle.text_measure.specs.Lengths.{head_of_path, own_length}
use Rattle.text_measure.proofs.Scans.{path-got, path-stop, scanned-leaf, scanned-stop}
use Rattle.encoding.proofs.Reading.{handed-on}
use Rattle.text_measure.proofs.own_path.Goals as goal

pub returns : goal.returns
unfolding path_head own_length
returns c =
    let a = c.args in
    let k = path-got c.path_at.ensures c.in_ok-next.was in
    scanned-leaf a.words.now a.pairs.now (FromPath _) (ap head_of_path k.0) c.own_leaf.ensures refl k.1 k.2

pub returns-in_err-next : goal.returns-in_err-next
unfolding path_head
returns-in_err-next c =
    let a = c.args in
    scanned-stop a.words.now a.pairs.now (ap head_of_path (path-stop c.path_at.ensures c.in_err-next.was)) (handed-on c.from_residual.ensures.1)
