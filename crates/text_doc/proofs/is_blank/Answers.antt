use Rattle.rast.specs.Bytes.{ascii}
use mathlib.Core.Path.{◌∙◌, sym}
use Rattle.text_doc.proofs.is_blank.Goals as goal

pub returns-then-stands : goal.returns-then-stands
unfolding ascii
returns-then-stands c = rw (sym c.stands.ensures ∙ c.if-stands.true)

pub returns : goal.returns
unfolding ascii
returns c = rw (sym c.stands.ensures ∙ c.if-stands.false) c.stands-2.ensures
