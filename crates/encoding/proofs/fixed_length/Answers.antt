use mathlib.Core.Path.{◌∙◌}
use Rattle.encoding.proofs.Tables.{fixed-length}
use borrow.Author.Rules.{rules}
use Rattle.encoding.proofs.fixed_length.Goals as goal

pub returns : goal.returns
returns c = c.digit.ensures ∙ fixed-length c.args.name (search rules)
