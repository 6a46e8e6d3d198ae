use Prim.Native.Nat.{ℕ, ◌*◌}
use mathlib.Core.Path.{ap, ◌∙◌}
use lib.ListN.{drop, get_or, length, take}
use Rattle.rast.specs.Bytes.{ascii}
use Rattle.rast.specs.Tree.{U8}
use Rattle.rast.specs.ToString.{Primitive-to_string}
use Rattle.buffer.proofs.Laws.{wrote_as}
use Rattle.encoding.specs.Types.{primitives}
use Rattle.encoding.proofs.Primitives.{plain_start, plain_letters, plain-inside, plain-part}
use native.Mathlib.Omega.{arith}
use borrow.Author.Rules.{rules}
use Rattle.text_leaf.proofs.put_primitive.Goals as goal

pub overflow_mul-start : goal.overflow_mul-start
unfolding plain_start
overflow_mul-start c =
    let s = c in
    omega (arith, c.digit-start.ensures, plain-inside s.args.kind s.requires.0)

pub put_few-requires : goal.put_few-requires
unfolding plain_start
put_few-requires c =
    let s = c in
    let e = c.primitive_length.ensures in (
      omega (arith, e.1),
      omega (arith, e.0, c.digit-start.ensures, plain-inside s.args.kind s.requires.0),
      omega (arith, e.0, s.requires.1),
    )

pub returns : goal.returns
unfolding plain_start plain_letters ascii
returns c =
    let k = c.args.kind in
    let n = c.primitive_length.ensures.0 in
    let d = c.digit-start.ensures in
    wrote_as (ap (λ (m : ℕ). take m (drop (3 * c.digit-start.result) plain_letters)) n ∙ ap (λ (m : ℕ). take (length (Primitive-to_string (get_or primitives k U8))) (drop (3 * m) plain_letters)) d ∙ plain-part k (search rules)) c.put_few.ensures
