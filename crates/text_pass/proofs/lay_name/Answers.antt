use native.Mathlib.Omega.{arith}
use Rattle.text_pass.proofs.Leaves.{name-word, word_below}
use Rattle.text_pass.proofs.Passes.{came-went, counts-here, counts-went, ready-true}
use Rattle.text_pass.proofs.lay_name.Goals as goal

pub overflow_add-result : goal.overflow_add-result
overflow_add-result c =
    let s = c in
    let t = word_below (name-word s.args.words.now s.args.pairs.now s.args.text.now s.args.at) (ready-true c.if-write.true s.requires.1) in
    omega (arith, t.here, s.requires.0.few)

pub returns-then-write : goal.returns-then-write
returns-then-write c = came-went c.if-write.true c.write_name-end.ensures

pub returns : goal.returns
returns c =
    counts-went c.if-write.false (counts-here c.count_name.ensures)
