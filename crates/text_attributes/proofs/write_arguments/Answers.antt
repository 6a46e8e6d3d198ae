use mathlib.Core.Path.{refl}
use native.Mathlib.Omega.{arith}
use Rattle.rast.specs.Bytes.{ascii}
use Rattle.buffer.proofs.Passes.{laid-wrote}
use Rattle.text_pass.proofs.Passes.{turn-item, turns-end, turns_gap, turns-last, turns-next, turns-start}
use Rattle.text_pass.proofs.Leaves.{name-word, word_below}
use borrow.Author.Rules.{rules}
use Rattle.text_attributes.proofs.write_arguments.Goals as goal
use Rattle.text_attributes.proofs.write_arguments.Goals.{then-i-n, else-i-n}

pub loop-i-init : goal.loop-i-init
loop-i-init c = (refl, turns-start c.requires.1 c.requires.2)

pub write_name-p-requires : goal.write_name-p-requires
write_name-p-requires c = (c.requires.0, turn-item (c.loop-i.invariant.1.going c.loop-i-test.true))

pub overflow_add-place : goal.overflow_add-place
overflow_add-place c =
    let start = c in
    let t = word_below (name-word start.args.words.now start.args.pairs.now start.args.text.now c.loop-i.place) (turn-item (c.loop-i.invariant.1.going c.loop-i-test.true)) in
    omega (arith, t.here, start.requires.0.few)

pub put-p-requires : goal.put-p-requires
unfolding ascii
put-p-requires c = (turns_gap c.loop-i.invariant.1 c.loop-i-test.true c.write_name-p.ensures c.if-i-n.true).room refl

pub loop-i-preserved : goal.loop-i-preserved
unfolding ascii
loop-i-preserved c = (
  search rules,
  elim c.if-i-n.branch [
    | then-i-n w ↦ rw (w.out-is, w.p-is) (turns-next c.loop-i.invariant.1 c.loop-i-test.true c.write_name-p.ensures w.if-i-n.true (laid-wrote refl w.put-p.ensures))
    | else-i-n w ↦ rw (w.out-is, w.p-is) (turns-last c.loop-i.invariant.1 c.loop-i-test.true c.write_name-p.ensures w.if-i-n.false)
  ],
)

pub returns : goal.returns
returns c = turns-end c.loop-i.invariant.1 c.loop-i.auto.i-end c.loop-i-test.false
