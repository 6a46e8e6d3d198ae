use Rattle.buffer.proofs.Laws.{room-last, wrote_then}
use Rattle.rast.specs.Indent.{indent}
use lib.ListN.{length-append}
use mathlib.Core.List.{◌++◌}
use mathlib.Core.Path.{refl}
use native.Mathlib.Omega.{arith}
use Rattle.text_fields.proofs.Fields.{room_of, wrote_of}
use Rattle.text_fields.specs.Texts.{list_end}
use Rattle.rast.specs.Bytes.{ascii}
use mathlib.Core.Bool.{Bool}
use Rattle.text_fields.proofs.write_end.Goals as goal

pub put_line-p-requires : goal.put_line-p-requires
unfolding list_end ascii
put_line-p-requires c =
    let a = c.args in
    let room = room_of (λ (b : Bool). list_end b a.level) a.pos a.out.now c.if-named.true c.requires in
    let size = length-append (ascii "\n" ++ indent a.level) (ascii "}") in
    omega (arith, room, size)

pub put-requires : goal.put-requires
unfolding list_end ascii
put-requires c =
    let a = c.args in
    let room = room_of (λ (b : Bool). list_end b a.level) a.pos a.out.now c.if-named.true c.requires in
    room-last (ascii "}") room c.put_line-p.ensures refl

pub returns-then-named : goal.returns-then-named
unfolding list_end ascii
returns-then-named c =
    wrote_of (λ (b : Bool). list_end b c.args.level) c.if-named.true (wrote_then c.put_line-p.ensures c.put.ensures)

pub put-requires-2 : goal.put-requires-2
unfolding list_end ascii
put-requires-2 c =
    let a = c.args in
    room_of (λ (b : Bool). list_end b a.level) a.pos a.out.now c.if-named.false c.requires

pub returns : goal.returns
unfolding list_end ascii
returns c =
    wrote_of (λ (b : Bool). list_end b c.args.level) c.if-named.false c.put-2.ensures
