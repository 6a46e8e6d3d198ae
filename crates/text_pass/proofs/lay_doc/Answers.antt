use native.Mathlib.Omega.{arith}
use Rattle.text_pass.proofs.Leaves.{doc-word, word_below}
use Rattle.text_pass.proofs.Passes.{came-went, counts-went, ready-true}
use Rattle.text_pass.proofs.lay_doc.Goals as goal

pub write_doc-end-requires : goal.write_doc-end-requires
write_doc-end-requires c = let s = c in (s.requires.0, ready-true c.if-write.true s.requires.1)

pub overflow_add-result : goal.overflow_add-result
overflow_add-result c =
    let s = c in
    let t = word_below (doc-word s.args.words.now s.args.pairs.now s.args.text.now s.args.at s.args.level) (ready-true c.if-write.true s.requires.1) in
    omega (arith, t.here, s.requires.0.few)

pub returns-then-write : goal.returns-then-write
returns-then-write c = came-went c.if-write.true c.write_doc-end.ensures

pub returns : goal.returns
returns c = counts-went c.if-write.false c.count_doc.ensures
