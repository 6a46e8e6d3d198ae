use native.Mathlib.Omega.{arith}
use mathlib.Core.Path.{sym, ◌∙◌}
use lib.ListN.{length}
use Rattle.encoding.specs.Types.{type_at}
use Rattle.encoding.proofs.Reading.{handed-on}
use Rattle.sound_type.proofs.Accepted.{whole-accepted, whole-denied}
use Rattle.sound_type.proofs.accept_whole.Goals as goal

pub accept_type-requires : goal.accept_type-requires
accept_type-requires c = (c.requires.0.0, c.requires.1, omega arith)

pub returns : goal.returns
returns c =
    let a = c.args in
    c.sound_to.ensures ∙ whole-accepted (length a.words.now) (type_at a.words.now a.pairs.now a.text.now 0) c.accept_type.ensures c.in_ok-next.was

pub returns-in_err-next : goal.returns-in_err-next
returns-in_err-next c =
    let a = c.args in
    handed-on c.from_residual.ensures.1 ∙ sym (whole-denied (length a.words.now) (type_at a.words.now a.pairs.now a.text.now 0) c.accept_type.ensures c.in_err-next.was)
