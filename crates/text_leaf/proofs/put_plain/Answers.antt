use mathlib.Core.Path.{◌≡◌, ap, sym}
use lib.ListN.{length, get_or}
use native.Mathlib.Omega.{arith}
use Rattle.rast.specs.Bytes.{ascii}
use Rattle.rast.specs.Tree.{U8}
use Rattle.rast.specs.ToString.{Primitive-to_string}
use Rattle.buffer.proofs.Laws.{wrote_as}
use Rattle.encoding.specs.Types.{primitives}
use Rattle.text_leaf.proofs.Plain.{ends-wrote, usize-text}
use Rattle.text_leaf.proofs.put_plain.Goals as goal

pub put-requires : goal.put-requires
unfolding ascii
put-requires c =
    let start = c in
    let n : length (Primitive-to_string (get_or primitives start.args.kind U8)) ≡ 5 = ap length (usize-text c.if-kind-eq-USIZE.true) in
    omega (arith, n, start.requires.1)

pub returns-then-kind-eq-USIZE : goal.returns-then-kind-eq-USIZE
unfolding ascii
returns-then-kind-eq-USIZE c = wrote_as (sym (usize-text c.if-kind-eq-USIZE.true)) c.put.ensures

pub returns : goal.returns
returns c =
    let start = c in
    ends-wrote start.args.out.now start.args.pos (Primitive-to_string (get_or primitives start.args.kind U8)) c.plain_ends-count.ensures c.put_two.ensures c.put_two-2.ensures
