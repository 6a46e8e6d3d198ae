use Rattle.buffer.proofs.Laws.{part-wrote}
use borrow.Author.Rules.{rules}
use Rattle.buffer.proofs.put_part.Goals as goal

pub returns-then-count-le16 : goal.returns-then-count-le16
returns-then-count-le16 c =
    let a = c.args in
    part-wrote a.bytes.now a.start a.count (search rules) c.copy_ends.ensures

pub returns-then-count-le32 : goal.returns-then-count-le32
returns-then-count-le32 c =
    let a = c.args in
    part-wrote a.bytes.now a.start a.count (search rules) c.copy_ends-then-count-le32.ensures
