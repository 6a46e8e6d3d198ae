use Rattle.buffer.proofs.Passes.{laid-counted, laid-wrote}
use Rattle.buffer.proofs.lay.Goals as goal

pub put-requires : goal.put-requires
put-requires c = c.requires.room c.if-write.true

pub returns-then-write : goal.returns-then-write
returns-then-write c = laid-wrote c.if-write.true c.put.ensures

pub returns : goal.returns
returns c = laid-counted c.if-write.false c.count_few.ensures
