use Prim.Native.Nat.{◌+◌, ◌-◌}
use mathlib.Core.Path.{◌≡◌, refl}
use native.Mathlib.Omega.{arith}
use borrow.Author.Rules.{rules}
use Rattle.text_pass.proofs.Passes.{along-item, along-start, came-to}
use Rattle.text_pass.proofs.Lists.{along-each, along-end}
use Rattle.text_attributes.proofs.write_attributes.Goals as goal

pub loop-init : goal.loop-init
loop-init c =
    let e : c.args.n - 0 ≡ c.args.n = omega arith in
    (refl, rw e (along-start c.requires.1))

pub write_attribute-spot-requires : goal.write_attribute-spot-requires
write_attribute-spot-requires c =
    let l = c.loop in
    (c.requires.0, along-item _ _ (c.args.n - l.counter) l.spot.next l.invariant.1 (omega arith))

pub loop-preserved : goal.loop-preserved
loop-preserved c =
    let l = c.loop in
    let e : c.args.n - (l.counter + 1) ≡ c.args.n - l.counter - 1 = omega arith in
    (search rules, rw e (along-each _ (c.args.n - l.counter) l.spot.next l.invariant.1 (omega arith) c.write_attribute-spot.ensures))

pub returns : goal.returns
returns c =
    let l = c.loop in
    came-to (along-end _ (c.args.n - l.counter) l.spot.next l.invariant.1 (omega arith)) refl
