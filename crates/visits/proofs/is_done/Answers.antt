use mathlib.Core.Path.{sym, ◌∙◌}
use borrow.Author.Tests.{not-true}
use Rattle.visits.specs.Passes.{fields_alone}
use Rattle.visits.proofs.is_done.Goals as goal

pub returns-in-FieldList : goal.returns-in-FieldList
returns-in-FieldList c =
    λ e. fields_alone c.if-walk-ne0.false c.if-walk-ne0-2.false c.in-FieldList.is (sym c.is_entered.ensures ∙ not-true _ e) c.if-walk-ne0-3.false
