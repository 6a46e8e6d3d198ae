use borrow.Author.Rules.{rules}
use Rattle.std.specs.Prelude.{Ok, Err}
use native.Mathlib.Omega.{arith}
use Prim.Native.Nat.{◌+◌}
use mathlib.Core.Path.{refl, ap, ◌∙◌}
use Rattle.encoding.specs.Tables.{name_bytes, name_count}
use Rattle.encoding.proofs.Reading.{below_out, below_end, handed-on}
use Rattle.sound_type.proofs.Names.{judged-all, judged-sound, was-fine, was-poor, was-no-name}
use Rattle.sound_type.proofs.Paths.{onward-here, onward_then, onward-more, path-leaf, path-poor, path-stop}
use Rattle.sound_type.proofs.new_names.Goals as goal

pub overflow_add-end : goal.overflow_add-end
overflow_add-end c = omega (arith, c.requires.2.after, c.requires.2.inside, c.requires.4)

pub loop-i-init : goal.loop-i-init
loop-i-init c =
    let s = c in
    let a = s.args in
    let o = s.requires.2 in
    (onward-here (name_count a.pairs.now) a.words.now (name_bytes a.pairs.now a.text.now) a.ask a.start (a.path.start + a.path.count) o.within o.inside, s.requires.1)

pub returns-then-words-i : goal.returns-then-words-i
returns-then-words-i c =
    let a = c.args in
    let o = onward_then (name_count a.pairs.now) a.words.now (name_bytes a.pairs.now a.text.now) a.ask a.path.start (a.path.start + a.path.count) c.requires.2 c.loop-i.invariant.0 in
    (path-stop a.words.now a.pairs.now a.text.now a.ask a.path c.requires.3 o (search rules) (below_end (name_count a.pairs.now) a.words.now c.loop-i.i c.if-words-i.true) refl, c.loop-i.invariant.1)

pub check_new-requires : goal.check_new-requires
check_new-requires c = (c.requires.0, c.loop-i.invariant.1)

pub loop-i-preserved : goal.loop-i-preserved
loop-i-preserved c =
    let a = c.args in
    let f = was-fine c.check_new.ensures.0 (c.in_ok-check_new.was ∙ ap Ok c.if-not-branch.false) in
    (onward-more (name_count a.pairs.now) a.words.now (name_bytes a.pairs.now a.text.now) a.ask a.start (a.path.start + a.path.count) c.loop-i.invariant.0 (search rules) (search rules) f.0 (judged-sound a.ask f.1), c.check_new.ensures.1)

pub returns-then-not-branch : goal.returns-then-not-branch
returns-then-not-branch c =
    let a = c.args in
    let o = onward_then (name_count a.pairs.now) a.words.now (name_bytes a.pairs.now a.text.now) a.ask a.path.start (a.path.start + a.path.count) c.requires.2 c.loop-i.invariant.0 in
    let s = was-poor c.check_new.ensures.0 (c.in_ok-check_new.was ∙ ap Ok c.if-not-branch.true) in
    (path-poor a.words.now a.pairs.now a.text.now a.ask a.path c.requires.3 o (search rules) (search rules) (judged-all c.requires.5 ∙ s) refl, c.check_new.ensures.1)

pub returns-in_err-check_new : goal.returns-in_err-check_new
returns-in_err-check_new c =
    let a = c.args in
    let o = onward_then (name_count a.pairs.now) a.words.now (name_bytes a.pairs.now a.text.now) a.ask a.path.start (a.path.start + a.path.count) c.requires.2 c.loop-i.invariant.0 in
    let n = was-no-name c.check_new.ensures.0 c.in_err-check_new.was in
    (path-stop a.words.now a.pairs.now a.text.now a.ask a.path c.requires.3 o (search rules) (below_out (name_count a.pairs.now) a.words.now c.loop-i.i (search rules) n.0) (handed-on c.from_residual.ensures.1 ∙ ap Err n.1), c.check_new.ensures.1)

pub returns : goal.returns
returns c =
    let a = c.args in
    let o = onward_then (name_count a.pairs.now) a.words.now (name_bytes a.pairs.now a.text.now) a.ask a.path.start (a.path.start + a.path.count) c.requires.2 c.loop-i.invariant.0 in
    (path-leaf a.words.now a.pairs.now a.text.now a.ask a.path c.requires.3 o (omega (arith, c.loop-i.invariant.0.within)) refl, c.loop-i.invariant.1)
