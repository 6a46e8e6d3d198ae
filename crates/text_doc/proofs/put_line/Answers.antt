use Rattle.text_doc.proofs.Laying.{indent-spaces, line-size}
use Rattle.buffer.proofs.Laws.{wrote_as, wrote_kept, wrote_then}
use Rattle.rast.specs.Bytes.{Bytes, ascii}
use mathlib.Core.List.{◌++◌}
use mathlib.Core.Path.{ap, sym}
use native.Mathlib.Omega.{arith}
use Rattle.text_doc.proofs.put_line.Goals as goal

pub put-next-requires : goal.put-next-requires
put-next-requires c = let s = c in omega (arith, s.requires, line-size s.args.level)

pub put_spaces-requires : goal.put_spaces-requires
put_spaces-requires c =
    let s = c in
    let w = c.put-next.ensures in
    omega (arith, s.requires, line-size s.args.level, w.next, wrote_kept w)

pub returns : goal.returns
unfolding ascii
returns c =
    let e = sym (indent-spaces c.args.level) in
    wrote_as (ap (λ (x : Bytes). ascii "\n" ++ x) e) (wrote_then c.put-next.ensures c.put_spaces.ensures)
