use Prim.Native.Nat.{◌+◌, ◌≤◌, ◌<◌}
use lib.ListN.{length}
use Rattle.encoding.specs.HeadWords.{own_end}
use Rattle.encoding.proofs.HeadWords.{end-inside}
use native.Mathlib.Omega.{arith}
use Rattle.encoding.proofs.path_end.Goals as goal

pub overflow_add-result : goal.overflow_add-result
overflow_add-result c =
    let inside : (c.args.at < length c.args.words.now) × (own_end c.args.words.now c.args.at ≤ length c.args.words.now) = end-inside c.args.words.now c.args.at c.requires.0 in
    omega (arith, inside.0)

pub overflow_add-result-2 : goal.overflow_add-result-2
overflow_add-result-2 c =
    let inside : (c.args.at < length c.args.words.now) × (own_end c.args.words.now c.args.at ≤ length c.args.words.now) = end-inside c.args.words.now c.args.at c.requires.0 in
    omega (arith, inside.0)

pub offset_bounds-words-at : goal.offset_bounds-words-at
offset_bounds-words-at c =
    let inside : (c.args.at < length c.args.words.now) × (own_end c.args.words.now c.args.at ≤ length c.args.words.now) = end-inside c.args.words.now c.args.at c.requires.0 in
    omega (arith, c.requires.1, inside.1)

pub bounds-words-at : goal.bounds-words-at
bounds-words-at c =
    let inside : (c.args.at < length c.args.words.now) × (own_end c.args.words.now c.args.at ≤ length c.args.words.now) = end-inside c.args.words.now c.args.at c.requires.0 in
    omega (arith, c.requires.1, inside.1)

pub overflow_cast-result : goal.overflow_cast-result
overflow_cast-result c = omega (arith, c.shared_slice_known-1.given (c.args.at + 2))

pub overflow_add-result-3 : goal.overflow_add-result-3
overflow_add-result-3 c =
    let inside : (c.args.at < length c.args.words.now) × (own_end c.args.words.now c.args.at ≤ length c.args.words.now) = end-inside c.args.words.now c.args.at c.requires.0 in
    omega (arith, c.requires.1, inside.1)
