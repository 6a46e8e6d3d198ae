use Prim.Native.Nat.{◌+◌}
use mathlib.Core.Path.{refl}
use Rattle.encoding.proofs.HeadWords.{end-inside}
use native.Mathlib.Omega.{arith}
use Rattle.encoding.proofs.second_word.Goals as goal

pub overflow_add-result : goal.overflow_add-result
overflow_add-result c = omega (arith, (end-inside c.args.words.now c.args.at c.requires.0).0)

pub offset_bounds-words-at : goal.offset_bounds-words-at
offset_bounds-words-at c = omega (arith, c.requires.1, (end-inside c.args.words.now c.args.at c.requires.0).1)

pub bounds-words-at : goal.bounds-words-at
bounds-words-at c = omega (arith, c.requires.1, (end-inside c.args.words.now c.args.at c.requires.0).1)

pub overflow_cast-result : goal.overflow_cast-result
overflow_cast-result c = omega (arith, c.shared_slice_known-1.given (c.args.at + 1))

pub returns : goal.returns
returns c = (refl, omega (arith, c.shared_slice_known-1.given (c.args.at + 1)))
