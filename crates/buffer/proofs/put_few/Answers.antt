use Rattle.buffer.proofs.Laws.{part-wrote}
use borrow.Author.Rules.{rules}
use Rattle.buffer.proofs.put_few.Goals as goal

pub returns : goal.returns
returns c =
    let a = c.args in
    part-wrote a.bytes.now a.start a.count (search rules) c.copy_few.ensures
