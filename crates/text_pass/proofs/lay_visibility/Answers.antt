use Rattle.text_pass.proofs.Leaves.{visibility-word, word_below}
use Rattle.text_pass.proofs.Passes.{came-went, counts-went, ready-true}
use borrow.Author.Rules.{rules}
use Rattle.text_pass.proofs.lay_visibility.Goals as goal

pub write_visibility-end-requires : goal.write_visibility-end-requires
write_visibility-end-requires c = ready-true c.if-write.true c.requires

pub overflow_add-result : goal.overflow_add-result
overflow_add-result c =
    let s = c in
    let h = (word_below (visibility-word s.args.words.now s.args.at) (ready-true c.if-write.true s.requires)).here in
    search rules

pub returns-then-write : goal.returns-then-write
returns-then-write c = came-went c.if-write.true c.write_visibility-end.ensures

pub returns : goal.returns
returns c = counts-went c.if-write.false c.count_visibility.ensures
