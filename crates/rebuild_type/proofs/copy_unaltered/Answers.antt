use Rattle.std.specs.Prelude.{Ok}
use Rattle.rebuild_type.proofs.Calls.{down-over}
use Rattle.rebuild_type.specs.Calls.{laid_down}
use Rattle.rebuild_type.specs.Attempts.{same_words}
use lib.ListN.{length}
use lib.Seq.{take-length}
use mathlib.Core.Path.{◌∙◌, ap}
use native.Mathlib.Omega.{arith}
use Rattle.rebuild_type.proofs.copy_unaltered.Goals as goal

pub returns-then-out-words : goal.returns-then-out-words
returns-then-out-words c =
    let a = c.args in
    down-over a.out.now (same_words a.words.now 0) (omega (arith, c.if-out-words.true)) c.clear.ensures

pub returns : goal.returns
returns c =
    let a = c.args in
    c.finish.ensures ∙ ap (λ l. laid_down a.out.now (Ok (record { words = l; top = length a.words.now; deep = 0 }))) (take-length a.words.now)
