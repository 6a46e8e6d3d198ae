use Prim.Native.Nat.{◌+◌, ◌-◌}
use mathlib.Core.Path.{◌≡◌, sym, ap, ◌∙◌}
use native.Mathlib.Nat.{sub-zero}
use Rattle.encoding.specs.Reading.{read_below}
use Rattle.encoding.specs.Scans.{ended}
use Rattle.encoding.proofs.Reading.{handed-on, read-got, read-stop, names_more, names-stop, names-none}
use native.Mathlib.Omega.{arith}
use Rattle.encoding.proofs.scan_names.Goals as goal

pub returns-in_err-next : goal.returns-in_err-next
returns-in_err-next c =
    let a = c.args in
    let l = c.loop in
    let e = read-stop (read_below a.bound a.words.now l.pos) c.scan_below.ensures c.in_err-next.was in
    handed-on c.from_residual.ensures.1 ∙ ap ended (sym (names-stop a.bound a.words.now l.pos (a.count - l.counter) _ (omega arith) e) ∙ l.invariant)

pub loop-init : goal.loop-init
loop-init c = rw sub-zero

pub loop-preserved : goal.loop-preserved
loop-preserved c =
    let a = c.args in
    let l = c.loop in
    let e = read-got (read_below a.bound a.words.now l.pos) c.scan_below.ensures c.in_ok-next.was in
    let d : a.count - (l.counter + 1) ≡ a.count - l.counter - 1 = omega arith in
    rw d (sym (names_more a.bound a.words.now l.pos (a.count - l.counter) _ _ (omega arith) e) ∙ l.invariant)

pub returns : goal.returns
returns c =
    let a = c.args in
    let l = c.loop in
    ap ended (sym (names-none a.bound a.words.now l.pos (a.count - l.counter) (omega arith)) ∙ l.invariant)
