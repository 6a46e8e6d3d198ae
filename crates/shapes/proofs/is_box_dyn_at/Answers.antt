use Rattle.shapes.specs.Parts.{BoxDynUnderlying}
use Rattle.shapes.specs.Shapes.{IsBoxDyn}
use Rattle.shapes.proofs.Elements.{box-dyn-found}
use Rattle.shapes.proofs.Judging.{judge-found}
use Rattle.shapes.proofs.is_box_dyn_at.Goals as goal

pub returns : goal.returns
returns c =
    let a = c.args in
    judge-found a.words.now a.pairs.now a.text.now a.at BoxDynUnderlying IsBoxDyn box-dyn-found c.box_dyn_part.ensures c.is_some.ensures
