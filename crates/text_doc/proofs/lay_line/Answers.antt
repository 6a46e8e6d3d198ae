use Rattle.text_doc.proofs.Laying.{line-size}
use Rattle.buffer.proofs.Passes.{laid-size, laid-wrote}
use mathlib.Core.Path.{sym}
use Rattle.text_doc.proofs.lay_line.Goals as goal

pub put_line-requires : goal.put_line-requires
put_line-requires c = c.requires.room c.if-write.true

pub returns-then-write : goal.returns-then-write
returns-then-write c = laid-wrote c.if-write.true c.put_line.ensures

pub returns : goal.returns
returns c = laid-size c.if-write.false c.count_few.ensures (sym (line-size c.args.level))
