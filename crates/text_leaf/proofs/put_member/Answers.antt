use mathlib.Core.Path.{sym, ap}
use lib.ListN.{length}
use Rattle.rast.specs.Bytes.{ascii}
use Rattle.buffer.proofs.Laws.{wrote_then, wrote_kept, wrote_as}
use Rattle.encoding.proofs.Tables.{name-fixed}
use native.Mathlib.Omega.{arith}
use borrow.Author.Rules.{rules}
use Rattle.text_leaf.proofs.put_member.Goals as goal

pub put-p-requires : goal.put-p-requires
unfolding ascii
put-p-requires c = omega (arith, c.requires.3)

pub put_fixed-requires : goal.put_fixed-requires
unfolding ascii
put_fixed-requires c =
    let s = c in
    let w = c.put-p.ensures in
    let e = name-fixed s.args.pairs.now s.args.text.now s.args.name c.if-name-lt-FIRST_PAIR.true in
    (s.requires.0, c.if-name-lt-FIRST_PAIR.true, omega (arith, s.requires.3, w.next, wrote_kept w, ap length e))

pub returns-then-name-lt-FIRST_PAIR : goal.returns-then-name-lt-FIRST_PAIR
unfolding ascii
returns-then-name-lt-FIRST_PAIR c =
    let a = c.args in
    let e = name-fixed a.pairs.now a.text.now a.name c.if-name-lt-FIRST_PAIR.true in
    wrote_then c.put-p.ensures (wrote_as (sym e) c.put_fixed.ensures)

pub put_pair-requires : goal.put_pair-requires
unfolding ascii
put_pair-requires c =
    let s = c in
    let w = c.put-p.ensures in
    (search rules, s.requires.1, s.requires.2, omega (arith, s.requires.3, w.next, wrote_kept w))

pub returns : goal.returns
unfolding ascii
returns c = wrote_then c.put-p.ensures c.put_pair.ensures
