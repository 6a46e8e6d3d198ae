use Rattle.std.specs.Prelude.{Ok}
use native.Mathlib.Omega.{arith}
use mathlib.Core.Path.{ap, sym, ◌∙◌}
use borrow.Author.Tests.{eqb-true}
use Rattle.rast.specs.Sound.{sound_size}
use Rattle.encoding.specs.Tables.{name_bytes}
use Rattle.encoding.specs.Types.{size_of}
use Rattle.sound_type.proofs.Names.{judged-nothing, judged-all, judged-sound, judged-size, was-fine, was-no-name}
use borrow.Author.Rules.{rules}
use Rattle.sound_type.proofs.size_fits.Goals as goal

pub returns-then-ask-eq0 : goal.returns-then-ask-eq0
returns-then-ask-eq0 c = (sym (judged-nothing _ c.if-ask-eq0.true), c.requires.2)

pub returns-then-size-eq0 : goal.returns-then-size-eq0
unfolding sound_size size_of
returns-then-size-eq0 c = (sym (judged-sound c.args.ask (rw c.if-size-eq0.true)), c.requires.2)

pub returns-then-is_known : goal.returns-then-is_known
returns-then-is_known c =
    let a = c.args in
    let k = c.requires.2 in
    let e = eqb-true _ _ (sym c.is_known.ensures ∙ c.if-is_known.true) in
    (sym (judged-size (name_bytes a.pairs.now a.text.now) a.size a.ask (search rules) (k.sound _ e)), k)

pub returns-then-fits : goal.returns-then-fits
returns-then-fits c =
    let a = c.args in
    let f = was-fine c.check_new.ensures.0 (c.in-Ok.is ∙ ap Ok c.if-fits.true) in
    (c.if-fits.true ∙ sym (judged-size (name_bytes a.pairs.now a.text.now) a.size a.ask (omega (arith, c.if-size-eq0.false)) f.1), c.check_new.ensures.1)

pub returns-else-fits : goal.returns-else-fits
returns-else-fits c = (c.sound_size.ensures ∙ sym (judged-all (omega (arith, c.if-ask-eq0.false))), c.check_new.ensures.1)

pub returns-in-Err : goal.returns-in-Err
returns-in-Err c =
    let n = was-no-name c.check_new.ensures.0 c.in-Err.is in
    absurd (let z : ⊥ = omega (arith, n.0, c.if-size-eq0.false, c.requires.0) in z)
