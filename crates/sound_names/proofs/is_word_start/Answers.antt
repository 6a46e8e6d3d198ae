use mathlib.Core.Path.{sym}
use borrow.Author.Tests.{le-leb, lt-leb, ne_eqb}
use lib.Dec.{leb}
use Rattle.rast.specs.Bytes.{◌and◌}
use Rattle.rast.specs.Sound.{within, is_letter, is_word_start}
use Rattle.rast.proofs.BytesLaws.{or-false}
use native.Mathlib.Omega.{arith}
use borrow.Author.Rules.{rules}
use Rattle.sound_names.proofs.is_word_start.Goals as goal

pub returns-then-b-lt65 : goal.returns-then-b-lt65
unfolding is_word_start is_letter within ◌and◌
returns-then-b-lt65 c =
    let b = c.args.b in
    rw (lt-leb 65 b c.if-b-lt65.true, lt-leb 97 b (omega arith), ne_eqb b 95 (omega arith))

pub returns-then-b-le90 : goal.returns-then-b-le90
unfolding is_word_start is_letter within ◌and◌
returns-then-b-le90 c =
    let b = c.args.b in
    rw (le-leb 65 b (search rules), le-leb b 90 (search rules))

pub returns-then-b-eq95 : goal.returns-then-b-eq95
unfolding is_word_start is_letter within ◌and◌
returns-then-b-eq95 c = rw c.if-b-eq95.true

pub returns-then-b-lt97 : goal.returns-then-b-lt97
unfolding is_word_start is_letter within ◌and◌
returns-then-b-lt97 c =
    let b = c.args.b in
    rw (le-leb 65 b (search rules), lt-leb b 90 (search rules), lt-leb 97 b (search rules), ne_eqb b 95 (search rules))

pub returns : goal.returns
unfolding is_word_start is_letter within ◌and◌
returns c =
    let b = c.args.b in
    rw (le-leb 65 b (search rules), lt-leb b 90 (search rules), le-leb 97 b (search rules), ne_eqb b 95 (search rules)) (sym (or-false (leb b 122)))
