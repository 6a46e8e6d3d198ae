use lib.Seq.{take-length}
use borrow.Author.Rules.{rules}
use Rattle.buffer.proofs.put.Goals as goal

pub returns : goal.returns
returns c =
    let whole = take-length c.args.bytes.now in
    record { bytes = rw whole at c.copy.ensures; next = search rules }
