use mathlib.Core.Path.{sym, ap}
use lib.ListN.{length}
use Rattle.buffer.proofs.Laws.{wrote_as}
use Rattle.encoding.proofs.Tables.{name-fixed}
use native.Mathlib.Omega.{arith}
use borrow.Author.Rules.{rules}
use Rattle.encoding.proofs.put_name.Goals as goal

pub put_one_fixed-requires : goal.put_one_fixed-requires
put_one_fixed-requires c =
    let a = c.args in
    let room = c.requires.2 in
    let e = name-fixed a.pairs.now a.text.now a.name (search rules) in
    (search rules, omega (arith, ap length e))

pub returns-then-name-lt-FIRST_PAIR : goal.returns-then-name-lt-FIRST_PAIR
returns-then-name-lt-FIRST_PAIR c =
    let a = c.args in
    wrote_as (sym (name-fixed a.pairs.now a.text.now a.name (search rules))) c.put_one_fixed.ensures
