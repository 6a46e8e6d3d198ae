use Rattle.text_doc.proofs.Runs.{begins-at, begins-end}
use mathlib.Core.Path.{sym}
use Rattle.text_doc.proofs.stands.Goals as goal

pub returns-then-at-doc : goal.returns-then-at-doc
returns-then-at-doc c = sym (begins-at c.args.doc.now c.args.at c.args.byte c.if-at-doc.true)

pub returns : goal.returns
returns c = sym (begins-end c.args.doc.now c.args.at c.args.byte c.if-at-doc.false)
