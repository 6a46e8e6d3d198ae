use borrow.Author.Rules.{rules}
use Rattle.text_doc.proofs.start_step.Goals as goal

pub fence_step-requires : goal.fence_step-requires
fence_step-requires c = (search rules, c.requires.1.quotes c.if-doc-at-eq32.false)
