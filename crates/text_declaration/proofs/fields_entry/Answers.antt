use Rattle.text_declaration.proofs.Declarations.{entry_named, entry-nameless}
use Rattle.text_fields.specs.Texts.{nameless_entry}
use mathlib.Core.Path.{ap, sym, ◌∙◌}
use Rattle.text_declaration.proofs.fields_entry.Goals as goal

pub returns-then-kind-eq-NAMED : goal.returns-then-kind-eq-NAMED
returns-then-kind-eq-NAMED c =
    entry_named c.args.in_case c.if-kind-eq-NAMED.true

pub returns-then-in_case : goal.returns-then-in_case
returns-then-in_case c =
    ap nameless_entry (sym c.if-in_case.true) ∙ entry-nameless c.args.in_case c.if-kind-eq-NAMED.false

pub returns : goal.returns
returns c =
    ap nameless_entry (sym c.if-in_case.false) ∙ entry-nameless c.args.in_case c.if-kind-eq-NAMED.false
