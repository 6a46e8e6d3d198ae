use Prim.Native.Nat.{◌+◌, ◌-◌}
use mathlib.Core.Path.{◌≡◌}
use native.Mathlib.Omega.{arith}
use Rattle.text_pass.proofs.Passes.{along-start, along-stop, came-to, ready-count, went-handed}
use Rattle.text_pass.proofs.Lists.{along-each, along-end}
use Rattle.text_attributes.proofs.count_attributes.Goals as goal

pub loop-init : goal.loop-init
loop-init c =
    let e : c.args.n - 0 ≡ c.args.n = omega arith in
    rw e (along-start ready-count)

pub returns-in_err-place : goal.returns-in_err-place
returns-in_err-place c =
    let l = c.loop in
    went-handed c.in_err-place.was c.from_residual.ensures.1 (along-stop _ _ (c.args.n - l.counter) l.place l.invariant (omega arith) c.count_attribute.ensures c.in_err-place.was)

pub loop-preserved : goal.loop-preserved
loop-preserved c =
    let l = c.loop in
    let e : c.args.n - (l.counter + 1) ≡ c.args.n - l.counter - 1 = omega arith in
    rw e (along-each _ (c.args.n - l.counter) l.place l.invariant (omega arith) (came-to c.count_attribute.ensures c.in_ok-place.was))

pub returns : goal.returns
returns c =
    let l = c.loop in
    along-end _ (c.args.n - l.counter) l.place l.invariant (omega arith)
