use borrow.Author.Rules.{rules}
use Rattle.text_doc.proofs.Runs.{passed-more}
use Rattle.text_doc.proofs.newline_from.Goals as goal

pub loop-i-preserved : goal.loop-i-preserved
loop-i-preserved c = passed-more c.args.doc.now c.loop-i.invariant (search rules) c.if-doc-i-eq10.false
