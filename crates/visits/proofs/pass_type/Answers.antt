use mathlib.Core.Path.{sym, ◌∙◌}
use Rattle.visits.proofs.Entering.{due-one, passed-entered, passed_over}
use Rattle.visits.proofs.pass_type.Goals as goal

pub returns-then-is_entered : goal.returns-then-is_entered
returns-then-is_entered c =
    let a = c.args in
    passed-entered a.words.now a.pairs.now a.text.now a.role a.at (sym c.is_entered.ensures ∙ c.if-is_entered.true) c.visit_types.ensures

pub skip_type-requires : goal.skip_type-requires
skip_type-requires c =
    let s = c in
    due-one s.args.words.now s.args.pairs.now s.args.text.now s.args.at s.requires

pub returns : goal.returns
returns c =
    let s = c in
    let a = s.args in
    passed_over a.words.now a.pairs.now a.text.now a.role a.at (sym c.is_entered.ensures ∙ c.if-is_entered.false) s.requires c.skip_type.ensures
