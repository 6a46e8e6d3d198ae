use Prim.Native.Nat.{◌+◌, ◌-◌}
use mathlib.Core.Path.{◌≡◌, refl}
use native.Mathlib.Omega.{arith}
use Rattle.rast.specs.Bytes.{ascii}
use Rattle.buffer.proofs.Passes.{laid-counted}
use Rattle.text_pass.specs.Passes.{came}
use Rattle.text_pass.proofs.Passes.{came-to, ready-count, turn_last, turn-next, turn-start, turn-stop, went-handed}
use Rattle.text_attributes.proofs.count_arguments.Goals as goal

pub loop-init : goal.loop-init
loop-init c =
    let e : c.args.n - 0 ≡ c.args.n = omega arith in
    (c.requires.1, λ h. rw e (turn-start c.requires.2 ready-count), λ h. absurd (let z : ⊥ = omega arith in z))

pub count_name-requires : goal.count_name-requires
count_name-requires c = (c.requires.0, c.loop.invariant.0)

pub returns-in_err-place : goal.returns-in_err-place
returns-in_err-place c = went-handed c.in_err-place.was c.from_residual.ensures.1 (turn-stop (c.loop.invariant.1 c.loop-test.true) c.count_name.ensures c.in_err-place.was)

pub loop-preserved : goal.loop-preserved
unfolding ascii
loop-preserved c =
    let l = c.loop in
    let turn = l.invariant.1 c.loop-test.true in
    let one = came-to c.count_name.ensures c.in_ok-place.was in
    let e : c.args.n - (l.counter + 1) ≡ c.args.n - l.counter - 1 = omega arith in (
      omega arith,
      λ h. rw e (turn-next turn one (λ k. omega arith) (laid-counted refl refl)),
      λ h. turn_last turn one (omega arith),
    )

pub returns : goal.returns
returns c = came (c.loop.invariant.2 (omega arith))
