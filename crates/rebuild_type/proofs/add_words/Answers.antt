use Rattle.rebuild_type.proofs.Growing.{part-laid, part-over}
use mathlib.Core.Path.{refl}
use native.Mathlib.Omega.{arith}
use Rattle.rebuild_type.proofs.add_words.Goals as goal

pub returns-then-limit-pos : goal.returns-then-limit-pos
returns-then-limit-pos c =
    let a = c.args in part-over a.out.now a.src.now a.pos a.start a.count c.requires.0 c.requires.1 c.if-limit-pos.true refl

pub returns : goal.returns
returns c =
    let a = c.args in
    part-laid a.out.now a.src.now a.pos a.start a.count c.requires.0 (omega (arith, c.if-limit-pos.false, c.requires.1)) c.requires.2 c.copy_few.ensures refl
