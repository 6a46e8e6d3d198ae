use mathlib.Core.Path.{◌∙◌}
use Rattle.encoding.proofs.Names.{same_is}
use Rattle.encoding.proofs.same_bytes.Goals as goal

pub returns : goal.returns
returns c = c.eq.ensures ∙ same_is c.args.a.now c.args.b.now
