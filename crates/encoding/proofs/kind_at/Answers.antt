use mathlib.Core.Path.{refl}
use Rattle.encoding.proofs.HeadWords.{end-inside}
use native.Mathlib.Omega.{arith}
use Rattle.encoding.proofs.kind_at.Goals as goal

pub offset_bounds-words-at : goal.offset_bounds-words-at
offset_bounds-words-at c = omega (arith, (end-inside c.args.words.now c.args.at c.requires).0)

pub bounds-words-at : goal.bounds-words-at
bounds-words-at c = omega (arith, (end-inside c.args.words.now c.args.at c.requires).0)

pub returns : goal.returns
returns c = (refl, (end-inside c.args.words.now c.args.at c.requires).0)
