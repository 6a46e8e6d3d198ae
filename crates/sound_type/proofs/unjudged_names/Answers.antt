use native.Mathlib.Omega.{arith}
use Prim.Native.Nat.{◌+◌}
use mathlib.Core.Path.{refl}
use Rattle.encoding.specs.Reading.{read_below}
use Rattle.encoding.specs.Tables.{name_bytes, name_count}
use Rattle.encoding.proofs.Reading.{read-got, read-stop, handed-on}
use Rattle.encoding.proofs.Inside.{below-there}
use Rattle.sound_type.proofs.Names.{judged-nothing}
use Rattle.sound_type.proofs.Paths.{onward-here, onward-more, path-leaf, path-stop}
use borrow.Author.Rules.{rules}
use Rattle.sound_type.proofs.unjudged_names.Goals as goal

pub overflow_add-end : goal.overflow_add-end
overflow_add-end c = omega (arith, c.requires.0, c.requires.2)

pub loop-i-init : goal.loop-i-init
loop-i-init c =
    let a = c.args in
    onward-here (name_count a.pairs.now) a.words.now (name_bytes a.pairs.now a.text.now) 0 a.path.start (a.path.start + a.path.count) (omega arith) c.requires.0

pub loop-i-preserved : goal.loop-i-preserved
loop-i-preserved c =
    let a = c.args in
    let l = c.loop-i in
    let e = read-got (read_below _ a.words.now l.i) c.scan_below.ensures c.in_ok-scan_below.was in
    let w = below-there _ a.words.now l.i e in
    onward-more (name_count a.pairs.now) a.words.now (name_bytes a.pairs.now a.text.now) 0 a.path.start (a.path.start + a.path.count) l.invariant (search rules) w.here (omega (arith, w.same, w.below, c.name_count-bound.ensures)) (judged-nothing _ refl)

pub returns-in_err-scan_below : goal.returns-in_err-scan_below
returns-in_err-scan_below c =
    let a = c.args in
    let l = c.loop-i in
    let e = read-stop (read_below _ a.words.now l.i) c.scan_below.ensures c.in_err-scan_below.was in
    path-stop a.words.now a.pairs.now a.text.now 0 a.path c.requires.1 l.invariant (search rules) (rw c.name_count-bound.ensures at e) (handed-on c.from_residual.ensures.1)

pub returns : goal.returns
returns c =
    let a = c.args in
    path-leaf a.words.now a.pairs.now a.text.now 0 a.path c.requires.1 c.loop-i.invariant (omega (arith, c.loop-i.invariant.within)) refl
