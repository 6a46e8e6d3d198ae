use Prim.Native.Nat.{◌+◌}
use mathlib.Core.Path.{refl}
use Rattle.encoding.specs.declared.Head.TheVariants.{FromPath}
use Rattle.encoding.specs.Reading.{read_below}
use Rattle.encoding.proofs.Reading.{handed-on, read-got, read-stop}
use Rattle.text_measure.proofs.PathNames.{names-on, path-halt, path-all}
use Rattle.encoding.proofs.Inside.{below-there}
use Rattle.accept_type.proofs.Scans.{scanned-leaf, scanned-stop}
use native.Mathlib.Omega.{arith}
use borrow.Author.Rules.{rules}
use Rattle.accept_type.proofs.own_names.Goals as goal

pub overflow_add-end : goal.overflow_add-end
overflow_add-end c = omega (arith, c.requires.1)

pub loop-i-init : goal.loop-i-init
loop-i-init c = record { within = omega arith; inside = c.requires.1; read = refl }

pub loop-i-preserved : goal.loop-i-preserved
loop-i-preserved c =
    let a = c.args in
    let l = c.loop-i in
    let e = read-got (read_below a.bound a.words.now l.i) c.scan_below.ensures c.in_ok-scan_below.was in
    rw (below-there a.bound a.words.now l.i e).next at (names-on a.bound a.words.now a.path.start (a.path.start + a.path.count) l.i l.invariant (search rules) e)

pub returns-in_err-scan_below : goal.returns-in_err-scan_below
returns-in_err-scan_below c =
    let a = c.args in
    let l = c.loop-i in
    let e = read-stop (read_below a.bound a.words.now l.i) c.scan_below.ensures c.in_err-scan_below.was in
    scanned-stop (rw (path-halt a.bound a.words.now a.path l.i l.invariant (search rules) e)) (handed-on c.from_residual.ensures.1)

pub returns : goal.returns
returns c =
    let a = c.args in
    let l = c.loop-i in
    scanned-leaf (FromPath a.path) (rw (path-all a.bound a.words.now a.path l.i l.invariant (search rules))) refl refl
