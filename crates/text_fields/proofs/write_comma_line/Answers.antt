use Prim.Native.Nat.{◌+◌}
use Rattle.text_fields.proofs.Fields.{comma-line, comma-line-size}
use Rattle.buffer.proofs.Laws.{room-last, wrote_as, wrote_then}
use Rattle.rast.specs.Bytes.{ascii}
use Rattle.rast.specs.Indent.{indent}
use mathlib.Core.List.{◌++◌}
use mathlib.Core.Path.{sym}
use native.Mathlib.Omega.{arith}
use Rattle.text_fields.proofs.write_comma_line.Goals as goal

pub put-p-requires : goal.put-p-requires
put-p-requires c =
    let size = comma-line-size c.args.level in
    omega (arith, size, c.requires.1)

pub put_line-requires : goal.put_line-requires
unfolding ascii
put_line-requires c =
    room-last (ascii "\n" ++ indent (c.args.level + 1)) c.requires.1 c.put-p.ensures (comma-line c.args.level)

pub returns : goal.returns
unfolding ascii
returns c =
    wrote_as (sym (comma-line c.args.level)) (wrote_then c.put-p.ensures c.put_line.ensures)
