use Rattle.same_type.proofs.Steps.{fixed-apart, same-swap}
use Rattle.encoding.specs.Tables.{name_bytes}
use Rattle.rast.specs.Bytes.{same}
use Rattle.rast.proofs.BytesLaws.{same_self}
use mathlib.Core.Path.{◌∙◌, ap, sym}
use Rattle.same_type.proofs.same_name.Goals as goal

pub returns-then-x-y : goal.returns-then-x-y
returns-then-x-y c = let a = c.args in rw c.if-x-y.true (sym (same_self (name_bytes a.pairs.now a.text.now a.y)))

pub returns-then-y-lt-FIRST_PAIR : goal.returns-then-y-lt-FIRST_PAIR
returns-then-y-lt-FIRST_PAIR c =
    let a = c.args in sym (fixed-apart a.pairs.now a.text.now a.x a.y c.if-x-lt-FIRST_PAIR.true c.if-y-lt-FIRST_PAIR.true c.if-x-y.false)

pub returns-then-x-lt-FIRST_PAIR : goal.returns-then-x-lt-FIRST_PAIR
returns-then-x-lt-FIRST_PAIR c =
    c.are_fixed.ensures ∙ ap (same (name_bytes c.args.pairs.now c.args.text.now c.args.x)) c.other_bytes.ensures

pub returns-then-y-lt-FIRST_PAIR-2 : goal.returns-then-y-lt-FIRST_PAIR-2
returns-then-y-lt-FIRST_PAIR-2 c =
    let a = c.args in
    c.are_fixed-then-y-lt-FIRST_PAIR-2.ensures ∙ ap (same (name_bytes a.pairs.now a.text.now a.y)) c.other_bytes-bytes.ensures ∙ same-swap (name_bytes a.pairs.now a.text.now a.y) (name_bytes a.pairs.now a.text.now a.x)

pub returns : goal.returns
returns c = c.same_bytes.ensures ∙ cc (c.other_bytes-bytes.ensures, c.other_bytes-2.ensures)
