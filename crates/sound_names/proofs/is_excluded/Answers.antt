use mathlib.Core.Path.{sym, ◌∙◌}
use borrow.Author.Tests.{le-leb, lt-leb}
use native.Mathlib.Omega.{arith}
use lib.ListN.{length}
use Rattle.rast.specs.Bytes.{◌and◌}
use Rattle.rast.specs.Sound.{within}
use Rattle.sound_names.proofs.Names.{excluded-sized, excluded-begins}
use Rattle.sound_names.proofs.is_excluded.Goals as goal

pub returns-then-bytes-eq0 : goal.returns-then-bytes-eq0
unfolding within ◌and◌
returns-then-bytes-eq0 c =
    let b = c.args.bytes.now in
    sym (excluded-sized b (rw (lt-leb 2 (length b) (omega arith))))

pub returns-then-bytes-gt5 : goal.returns-then-bytes-gt5
unfolding within ◌and◌
returns-then-bytes-gt5 c =
    let b = c.args.bytes.now in
    sym (excluded-sized b (rw (le-leb 2 (length b) (omega arith), lt-leb (length b) 5 (omega arith))))

pub returns : goal.returns
returns c =
    sym (excluded-begins c.args.bytes.now (sym c.begins_excluded.ensures ∙ c.if-begins_excluded.false))
