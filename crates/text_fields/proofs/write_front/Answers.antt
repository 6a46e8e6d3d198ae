use Prim.Native.Nat.{◌+◌}
use Rattle.buffer.proofs.Laws.{room-last, wrote_then}
use Rattle.rast.specs.Indent.{indent}
use mathlib.Core.List.{◌++◌}
use mathlib.Core.Path.{refl}
use native.Mathlib.Omega.{arith}
use Rattle.text_fields.proofs.Fields.{room_of, wrote_of}
use Rattle.text_fields.specs.Texts.{list_front}
use Rattle.rast.specs.Bytes.{ascii}
use mathlib.Core.Bool.{Bool}
use Rattle.text_fields.proofs.write_front.Goals as goal

pub put-p-requires : goal.put-p-requires
unfolding list_front ascii
put-p-requires c =
    let a = c.args in
    let room = room_of (λ (b : Bool). list_front b a.level) a.pos a.out.now c.if-named.true c.requires.1 in
    omega (arith, room)

pub put_line-requires : goal.put_line-requires
unfolding list_front ascii
put_line-requires c =
    let a = c.args in
    let room = room_of (λ (b : Bool). list_front b a.level) a.pos a.out.now c.if-named.true c.requires.1 in
    room-last (ascii "\n" ++ indent (a.level + 1)) room c.put-p.ensures refl

pub returns-then-named : goal.returns-then-named
unfolding list_front ascii
returns-then-named c =
    wrote_of (λ (b : Bool). list_front b c.args.level) c.if-named.true (wrote_then c.put-p.ensures c.put_line.ensures)

pub put-requires : goal.put-requires
unfolding list_front ascii
put-requires c =
    let a = c.args in
    room_of (λ (b : Bool). list_front b a.level) a.pos a.out.now c.if-named.false c.requires.1

pub returns : goal.returns
unfolding list_front ascii
returns c =
    wrote_of (λ (b : Bool). list_front b c.args.level) c.if-named.false c.put.ensures
