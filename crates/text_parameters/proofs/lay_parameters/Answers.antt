use Rattle.rast.specs.Bytes.{ascii}
use Rattle.text_pass.specs.Passes.{came}
use Rattle.text_pass.proofs.Passes.{came-to, turn-item, turn-stop, turns-end, turns_gap, turns-last, turns-next, turns-start, went-handed}
use borrow.Author.Rules.{rules}
use mathlib.Core.Path.{refl}
use Rattle.text_parameters.proofs.lay_parameters.Goals as goal
use Rattle.text_parameters.proofs.lay_parameters.Goals.{then-i-n, else-i-n}

pub loop-i-init : goal.loop-i-init
loop-i-init c = (refl, turns-start c.requires.1 c.requires.2)

pub lay_parameter-requires : goal.lay_parameter-requires
lay_parameter-requires c = (c.requires.0, turn-item (c.loop-i.invariant.1.going c.loop-i-test.true))

pub returns-in_err-place : goal.returns-in_err-place
returns-in_err-place c = went-handed c.in_err-place.was c.from_residual.ensures.1 (turn-stop (c.loop-i.invariant.1.going c.loop-i-test.true) c.lay_parameter.ensures c.in_err-place.was)

pub lay-p-requires : goal.lay-p-requires
unfolding ascii
lay-p-requires c = turns_gap c.loop-i.invariant.1 c.loop-i-test.true (came-to c.lay_parameter.ensures c.in_ok-place.was) c.if-i-n.true

pub loop-i-preserved : goal.loop-i-preserved
unfolding ascii
loop-i-preserved c =
    let one = came-to c.lay_parameter.ensures c.in_ok-place.was in (
      search rules,
      elim c.if-i-n.branch [
        | then-i-n w ↦ rw (w.out-is, w.p-is) (turns-next c.loop-i.invariant.1 c.loop-i-test.true one w.if-i-n.true w.lay-p.ensures)
        | else-i-n w ↦ rw (w.out-is, w.p-is) (turns-last c.loop-i.invariant.1 c.loop-i-test.true one w.if-i-n.false)
      ],
    )

pub returns : goal.returns
returns c = came (turns-end c.loop-i.invariant.1 c.loop-i.auto.i-end c.loop-i-test.false)
