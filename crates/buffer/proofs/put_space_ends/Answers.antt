use Rattle.buffer.proofs.Passes.{spaces-ends}
use Rattle.buffer.specs.Laid.{spaces}
use borrow.Author.Rules.{rules}
use Rattle.buffer.proofs.put_space_ends.Goals as goal

pub returns : goal.returns
unfolding spaces
returns c =
    let a = c.args in
    spaces-ends 8 a.count (search rules) (search rules) c.put.ensures c.put-2.ensures
