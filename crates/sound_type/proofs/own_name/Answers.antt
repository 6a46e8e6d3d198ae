use Rattle.std.specs.Prelude.{Ok, Err}
use native.Mathlib.Omega.{arith}
use mathlib.Core.Path.{refl, ap, sym, ◌∙◌}
use borrow.Author.Tests.{eqb-true}
use Rattle.encoding.specs.declared.Head.TheVariants.{Name}
use Rattle.encoding.specs.Tables.{name_count}
use Rattle.encoding.proofs.Reading.{below_end, handed-on}
use Rattle.text_measure.specs.Lengths.{worded}
use Rattle.sound_type.proofs.Names.{judged-nothing, judged-all, judged-sound, was-fine, was-poor, was-no-name}
use Rattle.sound_type.proofs.Scans.{scanned-stop}
use Rattle.sound_type.proofs.Paths.{name-leaf, name-poor, name-unknown}
use Rattle.sound_type.proofs.own_name.Goals as goal

pub returns-then-words-at : goal.returns-then-words-at
returns-then-words-at c =
    let a = c.args in
    (scanned-stop a.words.now a.pairs.now a.text.now a.ask (ap (worded Name) (below_end (name_count a.pairs.now) a.words.now a.at c.if-words-at.true)) refl, c.requires.1)

pub returns-then-is_known : goal.returns-then-is_known
returns-then-is_known c =
    let a = c.args in
    let k = c.requires.1 in
    let e = eqb-true _ _ (sym c.is_known.ensures ∙ c.if-is_known.true) in
    (name-leaf a.words.now a.pairs.now a.text.now a.ask a.at c.if-words-at.false (k.inside _ e) (judged-sound a.ask (k.sound _ e)) refl, k)

pub overflow_cast-name : goal.overflow_cast-name
overflow_cast-name c = omega (arith, c.shared_slice_known-4-1.given c.args.at)

pub returns-then-name_count-name : goal.returns-then-name_count-name
returns-then-name_count-name c =
    let a = c.args in
    (name-unknown a.words.now a.pairs.now a.text.now a.ask a.at c.if-words-at.false (omega (arith, c.name_count.ensures, c.if-name_count-name.true)) refl, c.requires.1)

pub returns-then-ask-eq0 : goal.returns-then-ask-eq0
returns-then-ask-eq0 c =
    let a = c.args in
    (name-leaf a.words.now a.pairs.now a.text.now a.ask a.at c.if-words-at.false (omega (arith, c.name_count.ensures, c.if-name_count-name.false)) (judged-nothing _ c.if-ask-eq0.true) refl, c.requires.1)

pub returns-then-branch : goal.returns-then-branch
returns-then-branch c =
    let a = c.args in
    let f = was-fine c.check_new.ensures.0 (c.in_ok-check_new.was ∙ ap Ok c.if-branch.true) in
    (name-leaf a.words.now a.pairs.now a.text.now a.ask a.at c.if-words-at.false f.0 (judged-sound a.ask f.1) refl, c.check_new.ensures.1)

pub returns : goal.returns
returns c =
    let a = c.args in
    let s = was-poor c.check_new.ensures.0 (c.in_ok-check_new.was ∙ ap Ok c.if-branch.false) in
    (name-poor a.words.now a.pairs.now a.text.now a.ask a.at c.if-words-at.false (judged-all (omega (arith, c.if-ask-eq0.false)) ∙ s) refl, c.check_new.ensures.1)

pub returns-in_err-check_new : goal.returns-in_err-check_new
returns-in_err-check_new c =
    let a = c.args in
    let n = was-no-name c.check_new.ensures.0 c.in_err-check_new.was in
    (name-unknown a.words.now a.pairs.now a.text.now a.ask a.at c.if-words-at.false n.0 (handed-on c.from_residual.ensures.1 ∙ ap Err n.1), c.check_new.ensures.1)
