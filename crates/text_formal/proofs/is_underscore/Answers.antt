use Prim.Native.Nat.{◌+◌}
use mathlib.Core.Path.{refl}
use Rattle.rast.specs.Bytes.{ascii}
use Rattle.encoding.specs.Reading.{read_below}
use Rattle.encoding.specs.Tables.{fixed_names, name_count}
use Rattle.encoding.proofs.Reading.{read-got, read-stop}
use Rattle.encoding.proofs.Inside.{below-there}
use Rattle.text_formal.proofs.Receivers.{tells-behind, tells-name, tells-no-name, tells-other}
use native.Mathlib.Omega.{arith}
use borrow.Author.Rules.{rules}
use Rattle.text_formal.proofs.is_underscore.Goals as goal

pub returns-then-words-at : goal.returns-then-words-at
returns-then-words-at c =
    let a = c.args in
    tells-behind a.words.now a.pairs.now a.text.now a.at (search rules)

pub returns-then-words-at-ne-T_IDENTIFIER : goal.returns-then-words-at-ne-T_IDENTIFIER
returns-then-words-at-ne-T_IDENTIFIER c =
    let a = c.args in
    tells-other a.words.now a.pairs.now a.text.now a.at (search rules)

pub is_name-requires : goal.is_name-requires
unfolding fixed_names ascii
is_name-requires c =
    let a = c.args in
    let e = read-got (read_below (name_count a.pairs.now) a.words.now (a.at + 1)) (rw c.name_count.ensures at c.scan_below.ensures) c.in-Ok.is in
    ((below-there (name_count a.pairs.now) a.words.now (a.at + 1) e).below, c.requires, omega arith, refl)

pub returns-in-Ok : goal.returns-in-Ok
returns-in-Ok c =
    let a = c.args in
    let e = read-got (read_below (name_count a.pairs.now) a.words.now (a.at + 1)) (rw c.name_count.ensures at c.scan_below.ensures) c.in-Ok.is in
    tells-name a.words.now a.pairs.now a.text.now a.at (search rules) (search rules) e c.is_name.ensures

pub returns-in-Err : goal.returns-in-Err
returns-in-Err c =
    let a = c.args in
    tells-no-name a.words.now a.pairs.now a.text.now a.at (search rules) (search rules) (read-stop (read_below (name_count a.pairs.now) a.words.now (a.at + 1)) (rw c.name_count.ensures at c.scan_below.ensures) c.in-Err.is)
