use Prim.Native.Nat.{◌-◌}
use Rattle.buffer.proofs.Laws.{room_after, room-last, wrote_then, wrote_as}
use mathlib.Core.Path.{sym, ◌∙◌}
use mathlib.Core.List.{append_assoc}
use borrow.Author.Tests.{eq-eqb}
use Rattle.rast.specs.Bytes.{ascii}
use Rattle.rast.specs.ToString.{size_text}
use Rattle.encoding.specs.Tables.{name_bytes}
use Rattle.encoding.specs.Types.{size_of}
use Rattle.text_leaf.proofs.Paths.{sized-end}
use native.Mathlib.Omega.{arith}
use Rattle.text_leaf.proofs.put_size.Goals as goal

pub put-requires : goal.put-requires
unfolding size_text size_of ascii
put-requires c = rw (eq-eqb _ _ c.if-size-eq0.true) at c.requires.2

pub returns-then-size-eq0 : goal.returns-then-size-eq0
unfolding size_text size_of ascii
returns-then-size-eq0 c = rw (eq-eqb _ _ c.if-size-eq0.true) c.put.ensures

pub put-p-requires : goal.put-p-requires
unfolding ascii
put-p-requires c =
    let a = c.args in
    omega (arith, rw (sized-end (name_bytes a.pairs.now a.text.now) a.size c.if-size-eq0.false) at c.requires.2)

pub put_name-q-requires : goal.put_name-q-requires
unfolding ascii
put_name-q-requires c =
    let a = c.args in
    (omega (arith, c.requires.0), c.requires.1, room_after (name_bytes a.pairs.now a.text.now (a.size - 1)) (ascii "]") c.requires.2 c.put-p.ensures (sized-end (name_bytes a.pairs.now a.text.now) a.size c.if-size-eq0.false))

pub put-requires-2 : goal.put-requires-2
unfolding ascii
put-requires-2 c =
    let a = c.args in
    room-last (ascii "]") c.requires.2 (wrote_then c.put-p.ensures c.put_name-q.ensures) (sized-end (name_bytes a.pairs.now a.text.now) a.size c.if-size-eq0.false ∙ sym (append_assoc (ascii "; ") (name_bytes a.pairs.now a.text.now (a.size - 1)) (ascii "]")))

pub returns : goal.returns
unfolding ascii
returns c =
    let a = c.args in
    wrote_as (sym (sized-end (name_bytes a.pairs.now a.text.now) a.size c.if-size-eq0.false ∙ sym (append_assoc (ascii "; ") (name_bytes a.pairs.now a.text.now (a.size - 1)) (ascii "]")))) (wrote_then (wrote_then c.put-p.ensures c.put_name-q.ensures) c.put-2.ensures)
